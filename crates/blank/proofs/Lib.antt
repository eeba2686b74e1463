-- Laws of the crate: blank rows and offered rows as a loop comes to them, and the row in force.
pub mod Laws
