-- The definitions that this crate's promises and laws cite.
pub mod Own
pub mod SameRhythm
pub mod SamePatterns
pub mod passes
