pub mod Curve
pub mod Convert
