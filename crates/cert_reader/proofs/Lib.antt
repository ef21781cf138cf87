-- Lemmas of certificates' texts that are read.
pub mod EntryLaws
pub mod LineLaws
pub mod LogLaws
pub mod NumberLaws
pub mod PieceLaws
pub mod PlainLaws
pub mod Reading
pub mod RunLaws
pub mod StepLaws
pub mod TurnLaws
pub mod WordLaws
pub mod WrongLaws
