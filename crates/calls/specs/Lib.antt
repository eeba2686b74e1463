-- The calls that requests ask for.
pub mod Requests
