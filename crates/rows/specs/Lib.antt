pub mod Rows
pub mod Decoded
