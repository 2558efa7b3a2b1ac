pub mod Sheet
pub mod Checks
pub mod Document
