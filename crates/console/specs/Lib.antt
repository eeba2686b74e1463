-- What the exit status of the program says.
pub mod Status
