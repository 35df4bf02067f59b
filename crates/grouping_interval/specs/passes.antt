-- What the passes of this crate ask, and what they carry from value to value: nothing that a reader of its promises
-- needs.
pub mod Rooms
pub mod MarkPass
pub mod Counting
