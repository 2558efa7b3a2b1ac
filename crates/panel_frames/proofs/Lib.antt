pub mod Changes
pub mod Sizes
pub mod Lines
pub mod Trips
pub mod Opened
pub mod Opens
