pub mod Searched
pub mod Placed
pub mod Read
pub mod Rooms
pub mod LabBytes
