-- Laws of the crate: choices by number, the search, choices as lists, the answer, and filling.
pub mod Numbers
pub mod Choosing
pub mod Lists
pub mod Answering
pub mod Laying
