pub mod OneSpelling
pub mod Library
