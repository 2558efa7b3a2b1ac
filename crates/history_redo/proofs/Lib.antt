pub mod Answers
pub mod Forth
