pub mod Pushed
pub mod Finishing
pub mod Carrying
