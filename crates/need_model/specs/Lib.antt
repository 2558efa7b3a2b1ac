pub mod Asked
pub mod Need
pub mod Least
pub mod Judged
