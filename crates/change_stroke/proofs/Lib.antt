pub mod Extending
pub mod Reading
