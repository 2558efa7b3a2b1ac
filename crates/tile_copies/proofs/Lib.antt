pub mod Emitting
pub mod Places
pub mod AtPlace
pub mod Written
pub mod Coordinates
pub mod Copies
pub mod Mirrored
