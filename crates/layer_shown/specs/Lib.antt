pub mod Layers
pub mod Calls
pub mod Stack
