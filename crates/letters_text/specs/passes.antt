-- What only the passes and their proofs need: what a pass asks of its columns and its room.
pub mod Memory
