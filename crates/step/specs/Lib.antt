-- Definitions of the crate.
pub mod Answer
