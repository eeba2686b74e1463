-- Laws of the crate: numbers for dependencies and constants, chains of Same, what stands for a value, and one law for each way out of a function.
pub mod Numbers
pub mod Chains
pub mod Stands
pub mod Answers
