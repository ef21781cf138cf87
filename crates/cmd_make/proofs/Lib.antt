-- Lemmas of cmd_make: texts and states that grow draw by draw, the members of pools, stimuli and bindings that fit, and that a
-- recording is the only one.
pub mod Fitting
pub mod Growing
pub mod Members
pub mod OneRecording
