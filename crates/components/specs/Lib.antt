pub mod TurnParts
