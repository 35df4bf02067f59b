-- Drills in shorthand: the bytes, the grammar, the reading byte by byte, and where a text is at fault.
pub mod Letters
pub mod Grammar
pub mod Reading
pub mod Faults
