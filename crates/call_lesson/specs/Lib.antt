-- The definitions that this crate's promises and laws cite.
pub mod Lesson
pub mod Lent
pub mod Call
pub mod passes
