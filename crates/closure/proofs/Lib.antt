pub mod FlagsSet
pub mod SummariesKnown
pub mod PartAwaited
