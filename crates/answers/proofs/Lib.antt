-- Laws of the crate: lines of output.
pub mod Replies
