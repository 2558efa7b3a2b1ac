pub mod Changes
pub mod Lengths
pub mod Placed
pub mod ReadAgain
pub mod Filled
pub mod Putting
pub mod Written
