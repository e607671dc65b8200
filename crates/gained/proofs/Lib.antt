pub mod RoutinesGained
