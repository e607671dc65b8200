pub mod RootsOccur
