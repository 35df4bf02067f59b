-- What the exports for tests hand over.
pub mod Told
