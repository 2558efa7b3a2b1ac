pub mod Checks
pub mod Spans
pub mod Pointer
pub mod Rows
mod Examples
pub mod Regions
