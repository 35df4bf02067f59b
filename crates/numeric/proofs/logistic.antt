-- The module `logistic`: the table's rule and its sizes; each entry is the f64 nearest to its rule's value, and its rounding; the bracket holds e^e.
pub mod Rule
pub mod Bounds
pub mod Nearest
pub mod Rounded
pub mod Exponential
mod ListTests
mod Between
mod Bracket
mod Spacing
