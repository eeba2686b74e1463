-- Numbers: their digits, and a number in one piece.
pub mod Digit
pub mod Scan
