-- What only the passes and their proofs need: what a reader asks of its slices and what it leaves.
pub mod Readers
