pub mod Texts
pub mod Opening
