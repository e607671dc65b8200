pub mod Passes
pub mod PassParts
