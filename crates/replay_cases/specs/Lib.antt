-- When a case holds, and what is counted.
pub mod Cases
pub mod Count
pub mod Tally
