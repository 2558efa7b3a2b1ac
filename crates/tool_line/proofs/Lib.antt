pub mod Offsets
pub mod Toward
pub mod Walks
pub mod Ends
pub mod Points
pub mod Order
pub mod Reaching
pub mod Within
pub mod Alike
pub mod Examples
pub mod Writing
mod ToolLineExamples
