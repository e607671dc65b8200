pub mod ComponentsAnew
pub mod TurnsWork
pub mod TurnsFinished
pub mod TurnsTaken
