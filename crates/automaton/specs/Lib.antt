pub mod Sizes
pub mod Automaton
pub mod Decoded
pub mod Flags
pub mod NextStates
