-- What the letters program reads, and what its readers promise each other.
pub mod Input
pub mod passes
