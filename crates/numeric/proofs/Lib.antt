-- The laws of this crate. Those that are public are for the crates above, or are results of their own; the others serve the proofs of this crate alone.
pub mod Tests
pub mod Values
pub mod Monotone
pub mod Ordered
pub mod Bounded
pub mod ConstantLaws
pub mod Minus
pub mod MinusZero
pub mod ZeroSign
mod NanLaws
mod RoundLaws
mod Sign
mod Closest
mod Units
