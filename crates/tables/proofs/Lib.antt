pub mod KeysAsked
pub mod TableChanged
pub mod KeysBetween
