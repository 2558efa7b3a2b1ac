pub mod Blocks
pub mod Pasting
pub mod Moves
