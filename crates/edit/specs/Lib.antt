pub mod Edits
pub mod EditReads
pub mod Editing
pub mod Parts
