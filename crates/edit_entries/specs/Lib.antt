pub mod Unfilled
