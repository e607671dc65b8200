pub mod Saved
pub mod Rules
pub mod Answers
pub mod Parts
