-- The laws of this crate. Those that are public are for the crates above, or are results of their own; the others serve the proofs of this crate alone.
pub mod RatioLaws
pub mod NearestLaws
pub mod VerdictLaws
pub mod CallLaws
pub mod ChartLaws
mod BuiltLaws
mod CandidateLaws
mod Examples
