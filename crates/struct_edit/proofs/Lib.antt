pub mod Told
pub mod Checking
pub mod Painting
pub mod Putting
pub mod Whole
pub mod Journaled
