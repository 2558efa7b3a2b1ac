pub mod Touching
pub mod Staging
