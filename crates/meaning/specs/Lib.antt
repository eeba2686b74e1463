-- Definitions of the crate.
pub mod Owners
pub mod Search
pub mod Means
