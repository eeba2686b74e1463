-- Laws of the crate: parts cut from the pool.
pub mod Cut
