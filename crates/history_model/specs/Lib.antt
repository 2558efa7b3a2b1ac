pub mod Document
pub mod Editing
pub mod Handed
pub mod Demand3
pub mod Layers
pub mod Calls
pub mod Replay
