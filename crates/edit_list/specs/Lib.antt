pub mod Paintable
