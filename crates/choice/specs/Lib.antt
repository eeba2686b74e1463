-- Definitions of the crate.
pub mod Choices
