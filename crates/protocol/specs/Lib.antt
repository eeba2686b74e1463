-- The line protocol: what is read ahead, what a line says, and the text of an answer.
pub mod Ahead
pub mod Said
pub mod Examples
pub mod Text
