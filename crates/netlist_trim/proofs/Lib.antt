-- Lemmas of netlist_trim.
pub mod Fronts
pub mod Reading
pub mod Numbering
pub mod Growing
pub mod Kept
pub mod OneWay
