pub mod Inside
pub mod Listing
