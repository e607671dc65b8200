pub mod RepairAnswers
pub mod Repairs
pub mod Desk
