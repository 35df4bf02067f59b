-- The laws of this crate. Those that are public are for the crates above, or are results of their own; the others serve the proofs of this crate alone.
pub mod AcceptedLaws
pub mod RoomLaws
pub mod OutcomeLaws
pub mod ObjectLaws
pub mod NotesLaws
pub mod SeenLaws
pub mod RangeLaws
pub mod SettingsLaws
pub mod UnsignedLaws
pub mod CutLaws
pub mod RefusalLaws
pub mod AllLaws
mod Examples
