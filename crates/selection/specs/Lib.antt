pub mod Selection
pub mod Calls
pub mod Asked
pub mod Region
