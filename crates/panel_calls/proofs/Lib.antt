pub mod ActsAlike
