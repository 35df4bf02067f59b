-- The numbers of refusals, and what the reader of a count promises.
pub mod Numbers
pub mod passes
