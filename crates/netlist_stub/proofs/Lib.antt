-- Lemmas of netlist_stub.
pub mod Stack
pub mod Pieces
pub mod OneWay
