pub mod Same
pub mod Repainting
