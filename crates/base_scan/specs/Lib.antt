-- Definitions of texts that are read: their bytes, the numbers that words write, gaps, and words in front of others.
pub mod Bytes
pub mod Fronts
pub mod Gaps
pub mod Numbers
