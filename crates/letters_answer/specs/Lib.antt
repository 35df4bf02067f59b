-- The letters program's output, and what it was for letters alone.
pub mod Output
pub mod Plain
