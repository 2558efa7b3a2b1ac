pub mod Marking
pub mod Merging
pub mod Asking
pub mod Bringing
