pub mod Feeding
pub mod Parts
pub mod Hearing
