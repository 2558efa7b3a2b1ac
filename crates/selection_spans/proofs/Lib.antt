pub mod Spans
mod Moved
pub mod Rows
