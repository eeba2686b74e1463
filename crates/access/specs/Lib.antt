-- Definitions of the crate.
pub mod Sizes
pub mod State
