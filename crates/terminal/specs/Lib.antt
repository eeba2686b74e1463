-- What the arguments of the program ask for.
pub mod Options
