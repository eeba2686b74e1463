-- Laws of the definitions.
pub mod Names
pub mod Rows
