pub mod MarksResized
