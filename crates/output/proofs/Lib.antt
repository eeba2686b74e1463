pub mod Decimals
pub mod Fields
pub mod Filling
