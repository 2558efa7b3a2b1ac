pub mod Op
