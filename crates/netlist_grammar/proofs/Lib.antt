-- The rules and the machine of the grammar say the same, and refuse at the same token.
pub mod Found
pub mod Follows
pub mod Accepts
pub mod Viable
pub mod Theorem
pub mod NameBytes
pub mod WholeTrees
