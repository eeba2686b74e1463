-- Laws of the crate: one for each way out of a function.
pub mod Answers
