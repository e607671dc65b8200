pub mod FileFinished
