-- Lemmas of netlist_tokens.
pub mod Follows
pub mod Sizes
pub mod Sound
pub mod Steps
pub mod Told
pub mod Pieces
pub mod Wires
