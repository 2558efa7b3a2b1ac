pub mod Digits
pub mod Openings
pub mod Frames
pub mod Accepted
pub mod EqualLines
pub mod ReadBack
pub mod Canonical
pub mod Respelling
