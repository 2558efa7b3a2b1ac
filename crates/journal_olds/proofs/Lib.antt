pub mod Fresh
pub mod Examples
pub mod Claims
