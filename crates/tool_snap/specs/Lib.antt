pub mod Clipped
pub mod Snap
pub mod Cache
