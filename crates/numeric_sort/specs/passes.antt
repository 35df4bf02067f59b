-- What the passes of this crate ask and leave: for its own proofs, and nothing that a reader of its promises needs.
pub mod Sort
