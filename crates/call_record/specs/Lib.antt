-- The definitions that this crate's promises and laws cite.
pub mod Record
pub mod Call
pub mod passes
