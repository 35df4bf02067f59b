-- The definitions that this crate's promises and laws cite.
pub mod Over
pub mod Scan
pub mod passes
