pub mod Steps
pub mod Played
