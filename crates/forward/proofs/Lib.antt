pub mod EditedSteps
pub mod ExchangedSteps
pub mod ChangedMarks
pub mod EditedMarks
pub mod ExchangedMarks
