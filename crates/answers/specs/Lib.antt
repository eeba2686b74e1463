-- What the program answers to a line.
pub mod Answers
pub mod Gives
