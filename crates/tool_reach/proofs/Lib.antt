pub mod Touching
pub mod Paths
pub mod Reached
