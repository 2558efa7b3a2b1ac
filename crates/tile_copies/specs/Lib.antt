pub mod Pending
pub mod Mirror
