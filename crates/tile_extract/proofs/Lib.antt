pub mod Answers
pub mod Redrawing
