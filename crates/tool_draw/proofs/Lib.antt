pub mod Drawn
pub mod Staging
