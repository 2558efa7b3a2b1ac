pub mod NextFound
pub mod NextShown
pub mod NextTold
pub mod Chained
pub mod Widths
pub mod Pushed
