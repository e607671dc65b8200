pub mod Changes
pub mod Changing
pub mod Lengths
pub mod Wanted
pub mod Decoded
