-- What only the passes and their proofs need.
pub mod Streaks
