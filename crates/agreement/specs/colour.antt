-- Colour: its landmarks, and what is claimed from one on.
pub mod Landmark
pub mod Claim
pub mod Calls
