pub mod Pixels
pub mod Afresh
pub mod Stack
