pub mod ReadingLoop
