pub mod Contracts
pub mod Answered
pub mod Delivered
pub mod Possible
