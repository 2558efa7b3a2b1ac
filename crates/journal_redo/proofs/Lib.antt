pub mod Redos
pub mod RedoneAt
