pub mod Limits
pub mod Faithful
pub mod Answers
pub mod FlatHistory
pub mod FlatForm
pub mod Examples
