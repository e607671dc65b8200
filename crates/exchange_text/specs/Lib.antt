pub mod ExchangeText
pub mod Wanted
pub mod Decoded
pub mod Parts
