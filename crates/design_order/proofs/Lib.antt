-- Lemmas of design_order.
pub mod Chains
pub mod Finds
pub mod Listings
pub mod Loops
pub mod Orders
pub mod Sets
pub mod Walks
