pub mod Sample
pub mod BlocksPut
pub mod Theorems
