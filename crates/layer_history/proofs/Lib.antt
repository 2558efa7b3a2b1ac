pub mod Lent
pub mod Kept
pub mod Passing
pub mod Flat
