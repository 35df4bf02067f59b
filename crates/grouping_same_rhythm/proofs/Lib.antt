-- The laws of this crate. Those that are public are for the crates above, or are results of their own; the others serve the proofs of this crate alone.
pub mod MadeLaws
pub mod GroupsLaws
pub mod FirstLaws
pub mod ReachedLaws
pub mod UnsignedLaws
mod PatternsLaws
mod OwnLaws
mod OwnExamples
mod OwnsLaws
mod OwnsWalk
mod OwnsReach
