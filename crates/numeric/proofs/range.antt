-- The module `range`: what a test of range says of the value.
pub mod Laws
