-- The definitions that this crate's promises and laws cite.
pub mod Marks
pub mod Parted
pub mod Alike
pub mod passes
