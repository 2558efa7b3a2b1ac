pub mod Struct
pub mod Scratch
