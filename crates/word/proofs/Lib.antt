-- Laws of the crate: words of any width, and signed numbers.
pub mod Width
pub mod Signs
