pub mod Contracts
pub mod Delivered
