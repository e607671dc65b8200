pub mod FoundKept
pub mod TextScanned
pub mod TextLoop
pub mod ExchangesFit
pub mod ExchangeRefusalNumbers
pub mod Samples
pub mod Theorems
