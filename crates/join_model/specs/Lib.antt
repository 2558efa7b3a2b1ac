pub mod Joined
pub mod News
pub mod Stored
pub mod Places
pub mod Join
pub mod Judged
pub mod OnePalette
