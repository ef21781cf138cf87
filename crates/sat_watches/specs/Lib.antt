-- Definitions of sat_watches: literals, what an analysis met, and the watches of literals.
pub mod Literal
pub mod Seen
pub mod Watches
