-- The definitions that this crate's promises and laws cite.
pub mod Object
pub mod Chart
pub mod Lent
pub mod Refusal
pub mod Room
pub mod Outcome
pub mod Settings
pub mod passes
