pub mod ExchangesAnswer
pub mod RoomAnswers
