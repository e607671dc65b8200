pub mod Index
pub mod Linked
pub mod Part
