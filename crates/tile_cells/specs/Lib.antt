pub mod Tile
pub mod Cells
pub mod Extract
pub mod Reconstruct
pub mod Seen
pub mod Key
pub mod Ids
