-- What is counted, by the bytes that were read.
pub mod Read
