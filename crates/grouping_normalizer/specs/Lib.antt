-- The definitions that this crate's promises and laws cite.
pub mod Normalizer
pub mod SortedAgain
pub mod passes
