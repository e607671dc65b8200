pub mod OtherRoutines
pub mod TablesJoined
pub mod EdgesJoined
pub mod ExchangesWellFormed
pub mod Theorems
