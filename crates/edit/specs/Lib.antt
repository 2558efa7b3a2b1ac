pub mod Change
pub mod List
pub mod Storage
pub mod Locks
pub mod Checks
pub mod Apply
pub mod Accepted
