-- Laws of the crate: one instruction.
pub mod Instructions
