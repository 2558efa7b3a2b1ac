mod LinearBits
mod LinearTable
mod Range
pub mod Bytes
