-- The letters program's text: what is printed, and what lent memory holds.
pub mod Lines
pub mod passes
