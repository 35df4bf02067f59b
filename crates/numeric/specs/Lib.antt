-- The definitions that this crate's promises and laws cite.
pub mod Constants
pub mod Near
pub mod Range
pub mod TotalOrder
pub mod RoundTiesEven
pub mod Tenths
pub mod Logistic
pub mod LogisticRule
pub mod LogisticNearest
pub mod ExponentialSum
pub mod passes
