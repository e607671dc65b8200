pub mod ViolationsCounted
