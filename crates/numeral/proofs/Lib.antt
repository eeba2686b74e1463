-- Laws of the definitions.
pub mod Numerals
pub mod Scans
