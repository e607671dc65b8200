pub mod ReanalysisDecided
