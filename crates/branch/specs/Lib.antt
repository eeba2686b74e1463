-- Definitions of the crate.
pub mod End
