-- What only the passes and their proofs need: how long the slices may be, what a pass asks of them, and what a column
-- holds.
pub mod Room
pub mod Values
