pub mod Redoable
