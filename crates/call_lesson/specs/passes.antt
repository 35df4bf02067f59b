-- What only the passes and their proofs need: what a pass asks of its slices.
pub mod Rooms
