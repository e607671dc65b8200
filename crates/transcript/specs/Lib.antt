pub mod Transcript
pub mod Parts
