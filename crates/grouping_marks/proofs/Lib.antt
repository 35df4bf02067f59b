-- The laws of this crate. Those that are public are for the crates above, or are results of their own; the others serve the proofs of this crate alone.
pub mod MarksLaws
pub mod PartedLaws
pub mod CutLaws
pub mod NumberLaws
pub mod SplitLaws
pub mod AlikeLaws
pub mod ItemLaws
mod PassLaws
mod StoreLaws
