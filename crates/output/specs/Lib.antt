pub mod Digits
pub mod Room
