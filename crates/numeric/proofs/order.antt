-- The module `order`: what the answers of `total_order` cite, a number for each value in its order, and the order's laws.
pub mod Rank
pub mod Laws
mod Arms
pub mod Keys
