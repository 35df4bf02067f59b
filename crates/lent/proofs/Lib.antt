-- The laws of this crate. Those that are public are for the crates above, or are results of their own; the others serve the proofs of this crate alone.
pub mod OverLaws
pub mod FillLaws
pub mod ScanLaws
pub mod PieceLaws
pub mod WalkLaws
pub mod InPlaceLaws
pub mod JoinLaws
pub mod WrittenLaws
pub mod NeverLaws
pub mod TableLaws
pub mod SuffixLaws
