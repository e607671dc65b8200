pub mod Refusals
pub mod Book
pub mod Lists
pub mod Inputs
pub mod Demands
pub mod Cases
