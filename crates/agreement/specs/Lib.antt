-- The definitions of this crate. The claim whole is TailAgreement; its parts are in the rooms `colour` and `rhythm`.
pub mod CommonTail
pub mod SameGroups
pub mod colour
pub mod rhythm
pub mod TailAgreement
pub mod passes
