-- The definitions that this crate's promises and laws cite.
pub mod Turns
pub mod Call
pub mod passes
