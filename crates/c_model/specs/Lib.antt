pub mod Asked
pub mod Step
pub mod FlatHistory
pub mod FlatForm
