pub mod Reanalyzed
