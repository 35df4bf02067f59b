-- What only the passes and their proofs need: what a pass asks of its slices and what it leaves.
pub mod Numbered
