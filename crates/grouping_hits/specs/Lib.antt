-- The definitions that this crate's promises and laws cite.
pub mod RepeatingHitPatterns
pub mod passes
