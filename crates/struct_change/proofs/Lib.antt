pub mod Loops
pub mod Packing
