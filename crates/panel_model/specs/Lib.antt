pub mod Acts
pub mod Asks
