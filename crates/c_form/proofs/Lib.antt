pub mod Fields
pub mod Numbers
pub mod Misfits
pub mod Spans
pub mod ReadBack
pub mod Bounds
pub mod Placing
