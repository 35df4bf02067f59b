-- What the passes of this crate ask and leave: for its own proofs and for those of its callers.
pub mod Groups
pub mod Owns
