pub mod Limits
pub mod Numbers
pub mod Checks
pub mod Answer
pub mod Lists
pub mod Ints
pub mod Triples
