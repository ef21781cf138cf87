-- Definitions of what code finds of classes.
pub mod Arguments
pub mod Ends
pub mod Facts
pub mod Keeps
pub mod Test
pub mod Wires
