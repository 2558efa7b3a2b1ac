pub mod Sends
pub mod Streams
