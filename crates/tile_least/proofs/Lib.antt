pub mod Comparing
pub mod Seeing
pub mod Bits
pub mod Leasts
