pub mod Line
pub mod Walk
pub mod Within
pub mod Steps
pub mod Brush
pub mod Bresenham
