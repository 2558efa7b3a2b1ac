pub mod Hex
pub mod Spelt
