pub mod StepsOfProcedure
pub mod TakingOfProcedure
