-- The laws of this crate: the theorem whole, and the rooms `colour` and `rhythm`, which prove its parts. Those that are public are results of their own; the
-- others serve these.
pub mod TailsAgree
pub mod TestLaws
pub mod TailLaws
pub mod GroupLaws
pub mod Readings
pub mod colour
pub mod rhythm
mod Examples
