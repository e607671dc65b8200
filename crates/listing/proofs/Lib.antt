pub mod ListingPut
