pub mod Typed
pub mod Least
pub mod Pictured
pub mod Judging
