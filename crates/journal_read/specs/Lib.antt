pub mod Sound
pub mod Lies
pub mod LabRead
pub mod Number
