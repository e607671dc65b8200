pub mod PassesKeep
pub mod KeptExact
pub mod PruneAnswers
pub mod Theorems
