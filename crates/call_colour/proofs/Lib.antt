-- The laws of this crate. Those that are public are for the crates above, or are results of their own; the others serve the proofs of this crate alone.
pub mod StretchValues
pub mod CallLaws
pub mod StretchLaws
pub mod BoundLaws
pub mod ThirdBranch
pub mod AlikeLaws
pub mod AnswerLaws
pub mod UnsignedLaws
mod FilledLaws
mod TurnLaws
mod PartLaws
pub mod StretchCases
mod Examples
