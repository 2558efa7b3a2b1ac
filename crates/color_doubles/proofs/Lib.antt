pub mod Units
pub mod NearestDouble
pub mod Floats
pub mod Signs
pub mod Order
pub mod Magnitude
mod OwnDifference
