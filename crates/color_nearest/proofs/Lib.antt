pub mod Halves
mod Totals
pub mod Parts
pub mod Distances
pub mod FirstNearest
