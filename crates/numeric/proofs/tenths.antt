-- The module `tenths`: the size off the bit pattern, the whole number nearest to ten times a fraction, and that no other is.
mod Size
mod Tens
pub mod Nearest
pub mod Halves
mod Examples
