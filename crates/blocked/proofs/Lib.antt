pub mod EventsAllowed
pub mod RunsCutOff
pub mod KeysSearched
pub mod EdgesSought
