-- Definitions of the crate.
pub mod Run
