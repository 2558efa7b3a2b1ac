pub mod Flood
pub mod Cells
pub mod Fill
pub mod Fills
