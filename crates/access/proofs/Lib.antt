-- Laws of the crate: counts, and one law for each way out of a function.
pub mod Outcomes
pub mod Fields
