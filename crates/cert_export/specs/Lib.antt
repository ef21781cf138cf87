-- Definitions of what is written of a wave for other solvers.
pub mod Export
pub mod Adding
