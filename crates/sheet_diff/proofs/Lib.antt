pub mod Baselines
pub mod Slots
pub mod Shades
pub mod Mask
pub mod Answers
