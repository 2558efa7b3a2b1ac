pub mod Edges
pub mod Walked
