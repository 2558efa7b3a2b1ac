pub mod Copying
pub mod Fronts
pub mod Handing
pub mod InScratch
pub mod Parts
pub mod Rows
