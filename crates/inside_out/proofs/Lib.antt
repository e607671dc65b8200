pub mod InsideOutMarks
