pub mod CallsFound
pub mod StatesAsked
