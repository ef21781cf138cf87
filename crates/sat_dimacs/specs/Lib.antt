-- Definitions of formulas and logs as DIMACS texts.
pub mod Lines
pub mod Numbers
pub mod Grammar
pub mod Faults
pub mod Text
pub mod Machine
pub mod Reading
pub mod Laws
