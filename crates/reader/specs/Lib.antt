-- A line and how it is read, byte by byte.
pub mod Reader
