pub mod AnswersByBlocks
