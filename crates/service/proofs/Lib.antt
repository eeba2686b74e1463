-- Laws of the crate: the answers to the lines of some bytes.
pub mod Along
