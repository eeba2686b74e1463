-- What the program answers.
pub mod Served
pub mod Filling
