pub mod FlagsAsked
pub mod BitsChanged
pub mod FlagsChanged
pub mod FirstFlagFound
pub mod FlagsOfPart
pub mod FlagsJoined
