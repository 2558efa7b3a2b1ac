pub mod Painted
pub mod Clipping
pub mod Fitting
pub mod Frames
pub mod Stamps
