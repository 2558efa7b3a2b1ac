pub mod Redoing
