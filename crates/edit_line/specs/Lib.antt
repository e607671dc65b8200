pub mod EditLines
pub mod Parts
