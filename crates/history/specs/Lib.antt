pub mod Examples
pub mod LockExamples
