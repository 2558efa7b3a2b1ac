pub mod Convert
pub mod Conversion
pub mod Sizes
