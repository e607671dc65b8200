pub mod LowestFound
pub mod LoopFollows
pub mod AnalysisBegun
pub mod AnalysisLimited
