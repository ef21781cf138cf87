-- Lemmas of DIMACS texts.
pub mod AgainLaws
pub mod FaultLaws
pub mod Growing
pub mod HeaderLaws
pub mod NumberLaws
pub mod OwnLaws
pub mod PartLaws
pub mod ReachLaws
pub mod StandLaws
pub mod TextLaws
