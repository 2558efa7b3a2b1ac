pub mod Arithmetic
pub mod NearestDouble
pub mod Range
pub mod Finite
