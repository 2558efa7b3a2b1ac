pub mod Listing
pub mod Remaps
