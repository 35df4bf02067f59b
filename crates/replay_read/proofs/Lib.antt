-- The laws of this crate, for its own proofs.
mod ReadLaws
