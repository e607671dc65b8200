pub mod Components
pub mod Parts
