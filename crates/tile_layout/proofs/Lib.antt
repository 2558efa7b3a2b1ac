pub mod Numbered
pub mod Laid
