-- Laws of the definitions, and the examples.
pub mod Numbers
pub mod Words
pub mod Forgets
pub mod Whole
pub mod Examples
