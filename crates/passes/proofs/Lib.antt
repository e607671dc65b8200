pub mod EdgesOfRoutines
pub mod RoutinePartOfTable
pub mod RoundsClose
pub mod PassDerives
