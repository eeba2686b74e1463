-- Laws of the crate: one for each answer to Q19 and for the questions before Q20 in their order, and what a passed layout gives.
pub mod Layouts
pub mod Passed
