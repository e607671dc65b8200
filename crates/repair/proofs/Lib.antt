pub mod OwnMended
pub mod InsideOutNumbers
pub mod RepairsAnswer
pub mod BuffersKept
