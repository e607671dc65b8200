pub mod ListParts
pub mod AnswersPrinted
pub mod TurnsGiven
pub mod TextLimits
pub mod TurnsHold
