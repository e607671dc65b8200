pub mod TablesFilled
pub mod MovesListed
pub mod EventsHeard
pub mod LabelsFit
pub mod LabelsUnheard
pub mod MovesAsked
