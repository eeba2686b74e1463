-- Laws of the crate: the table of owners, runs, meanings, and the search for a word that is not met.
pub mod Owners
pub mod Runs
pub mod ByKind
pub mod Search
