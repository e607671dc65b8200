pub mod ExchangeStages
