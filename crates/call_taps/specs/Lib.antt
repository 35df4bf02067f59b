-- The definitions that this crate's promises and laws cite.
pub mod Taps
pub mod Refusals
pub mod Call
pub mod Lent
pub mod Choices
pub mod passes
