pub mod ListsChained
pub mod EdgesIndexed
pub mod RoutinePart
