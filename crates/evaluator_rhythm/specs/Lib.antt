-- The definitions that this crate's promises and laws cite.
pub mod RepeatedInterval
pub mod passes
