pub mod FlagsClosed
pub mod CallsByKey
pub mod ComponentsFromFlags
pub mod LeadsFlagged
pub mod RoutineSets
pub mod FlagsAsBits
