pub mod FramesPut
pub mod WriteAnswers
