pub mod StepsMark
pub mod StatesTaken
pub mod EdgesChased
pub mod StepsChosen
