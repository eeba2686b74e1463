-- Laws of the crate: the table of owners of a passed layout, and one law for each answer.
pub mod Checks
