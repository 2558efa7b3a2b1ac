pub mod Rising
pub mod Fit
pub mod Sessions
