pub mod MarksGained
