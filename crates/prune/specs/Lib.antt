pub mod Pruning
pub mod Parts
