-- The laws of this crate.
pub mod CasesLaws
pub mod CountLaws
