pub mod Others
pub mod Answers
pub mod Rows
pub mod RemoveAnswers
pub mod Opening
pub mod Used
pub mod PaletteAnswers
pub mod SetChecks
