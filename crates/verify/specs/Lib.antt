-- Definitions of the crate.
pub mod Tabled
pub mod Blocks
