pub mod Fit
pub mod List
