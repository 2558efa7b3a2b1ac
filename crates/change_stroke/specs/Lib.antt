pub mod Stroke
