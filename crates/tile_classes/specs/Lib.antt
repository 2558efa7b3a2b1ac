pub mod Places
pub mod Ranks
pub mod Classes
pub mod Firsts
pub mod Pixels
