pub mod Runs
pub mod Spreading
pub mod Landing
