pub mod Reached
pub mod Touching
