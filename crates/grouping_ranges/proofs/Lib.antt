-- The laws of this crate. Those that are public are for the crates above; the others are results of their own.
pub mod SureLaws
pub mod UnsignedLaws
mod Examples
