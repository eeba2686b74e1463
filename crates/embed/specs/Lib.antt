pub mod Lent
pub mod Turns
