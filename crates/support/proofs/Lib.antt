pub mod KeysAsked
pub mod EdgeScanned
pub mod PartSearched
pub mod SupportFound
