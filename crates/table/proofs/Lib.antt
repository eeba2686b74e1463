-- Laws of the crate: questions as a loop asks them, the tables for the crates above, and one law for each way out of a function.
pub mod Questions
pub mod Laws
pub mod Answers
