-- Definitions of the crate.
pub mod Fits
