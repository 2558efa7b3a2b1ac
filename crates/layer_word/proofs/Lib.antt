pub mod Painted
