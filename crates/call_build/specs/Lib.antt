-- The definitions that this crate's promises and laws cite.
pub mod Ratio
pub mod Build
pub mod Lent
pub mod Call
pub mod passes
