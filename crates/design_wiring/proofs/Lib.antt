-- Lemmas of design_wiring.
pub mod Jobs
pub mod Tables
