-- Definitions of the crate.
pub mod Numbers
