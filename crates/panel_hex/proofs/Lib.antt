mod Hexes
pub mod Digits
pub mod Trips
