-- Lemmas of netlist_stub_read.
pub mod Reading
