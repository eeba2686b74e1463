-- The grammar of a line: texts as codes, the requests as rows of parts, the phases of reading.
pub mod Codes
pub mod Grammar
pub mod Phase
