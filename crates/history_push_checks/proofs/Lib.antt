pub mod PushChecks
pub mod PushSteps
