pub mod LinesInRange
pub mod EditRefusalNumbers
pub mod Theorems
pub mod Samples
