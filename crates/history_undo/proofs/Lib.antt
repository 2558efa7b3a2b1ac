pub mod Answers
pub mod Back
