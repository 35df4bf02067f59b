-- The laws of this crate. Those that are public are for the crates above, or are results of their own; the others serve the proofs of this crate alone.
pub mod TablesLaws
pub mod CallLaws
pub mod MadeLaws
pub mod PerNoteLaws
pub mod UnsignedLaws
mod SpreadLaws
mod RegionLaws
mod AnswerLaws
