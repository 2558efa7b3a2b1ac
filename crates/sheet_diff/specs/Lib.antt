pub mod Mask
pub mod Tables
