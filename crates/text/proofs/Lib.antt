pub mod Digits
pub mod RoundTrip
pub mod LinesSplit
pub mod NumbersGathered
pub mod NumbersStored
