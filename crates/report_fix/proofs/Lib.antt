-- Lemmas on what is set and gained.
mod NamedRegisters
mod SetStarts
mod FittingStarts
mod MoreItems
mod FinishedBits
mod KeptBits
