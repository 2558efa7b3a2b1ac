pub mod AsBytes
pub mod Changes
pub mod Heads
pub mod Readings
pub mod Lists
pub mod Rewriting
pub mod Laying
