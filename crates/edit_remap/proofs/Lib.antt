pub mod Accepted
pub mod Marking
pub mod Remapping
