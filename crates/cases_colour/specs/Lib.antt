-- The definitions that this crate's promises and laws cite.
pub mod Colour
pub mod passes
