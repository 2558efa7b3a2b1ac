pub mod Cell
pub mod Marks
