pub mod Large
pub mod Limits
pub mod Settled
