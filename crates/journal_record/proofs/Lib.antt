pub mod LittleEndian
pub mod Splice
pub mod Strides
pub mod ByKind
pub mod Examples
pub mod Finding
pub mod Holds
pub mod Parts
