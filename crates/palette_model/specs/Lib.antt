pub mod Nearest
pub mod RemoveNearest
pub mod Removal
pub mod Colours
