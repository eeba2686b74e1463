-- Laws of the crate: a block and a run.
pub mod Blocks
pub mod Runs
