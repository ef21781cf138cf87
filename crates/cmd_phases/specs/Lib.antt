-- Definitions of what the phases of commands come to, and those of repairs that their clauses cite.
pub mod Cause
pub mod Repair
pub mod Parts
pub mod Code
pub mod Certificate
pub mod Sets
pub mod Phases
pub mod Texts
pub use Rattle.decide_repair.specs.Repaired
pub mod OfCert
pub mod OfListing
pub mod OfCond
