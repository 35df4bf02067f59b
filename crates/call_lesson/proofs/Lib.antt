-- The laws of this crate. Those that are public are for the crates above, or are results of their own; the others serve the proofs of this crate alone.
pub mod PairLaws
pub mod RisingLaws
pub mod VerdictLaws
pub mod CallLaws
pub mod StretchLaws
pub mod AnswerLaws
pub mod FaultLaws
pub mod UnsignedLaws
mod Examples
