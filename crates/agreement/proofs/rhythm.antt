-- Rhythm: from a landmark on two charts have the same groups of notes.
pub mod Claimed
pub mod NoteLaws
pub mod LandmarkLaws
pub mod RunsAgree
pub mod Calls
mod MarksAgree
mod Examples
mod WiderLandmarks
