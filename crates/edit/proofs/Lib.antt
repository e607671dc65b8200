pub mod EdgesRemaining
pub mod EditsWellFormed
pub mod KeysOfEdges
pub mod EditRefusals
pub mod Theorems
