pub mod OldSizes
pub mod MarksListed
pub mod LinesAsFrames
pub mod RisingByNumber
pub mod FramesByRules
pub mod TextCompared
pub mod MovesAnswered
pub mod FramesWritten
