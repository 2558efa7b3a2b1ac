pub mod Topmost
