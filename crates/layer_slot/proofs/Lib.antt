pub mod Slotting
pub mod Words
