pub mod Columns
pub mod Widths
pub mod Written
