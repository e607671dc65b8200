pub mod AnswersByChecks
pub mod LimitDecides
pub mod Samples
