-- Definitions of the crate.
pub mod Row
