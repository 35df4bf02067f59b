-- The laws of this crate. Those that are public are for the crates above, or are results of their own; the others serve the proofs of this crate alone.
pub mod LetterLaws
pub mod ReadingLaws
pub mod PlaceLaws
pub mod KindLaws
mod StepLaws
mod MoveLaws
mod ReachedLaws
pub mod BoundLaws
mod AlikeLaws
pub mod Sound
pub mod Complete
pub mod Unique
mod CloseLaws
mod FaultLaws
pub mod Refusals
mod Examples
pub mod PlainLaws
