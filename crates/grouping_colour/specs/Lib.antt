-- The definitions that this crate's promises and laws cite.
pub mod MonoStreak
pub mod AlternatingMonoPattern
pub mod passes
