pub mod RoomAnswers
pub mod Parts
pub mod Room
