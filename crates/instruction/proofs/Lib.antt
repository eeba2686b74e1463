pub mod Forms
pub mod Parts
pub mod Rows
pub mod Laws
