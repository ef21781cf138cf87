-- Definitions of netlist_stub: constant expressions, what a module's parts declare, and the text with stubs.
pub mod Sums
pub mod Known
pub mod Stubs
