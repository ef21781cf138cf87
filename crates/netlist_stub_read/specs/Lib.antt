-- Definitions of netlist_stub_read: the words of declarations, the parts of a module that declare, and what a text
-- defines.
pub mod Words
pub mod Parts
pub mod Modules
