pub mod NoChecks
pub mod Deciding
