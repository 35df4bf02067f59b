-- The definitions that this crate's promises and laws cite.
pub mod Call
pub mod Case
pub mod Held
pub mod Table
pub mod Form
pub mod Sentinel
pub mod passes
