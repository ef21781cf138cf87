-- Definitions of netlist_tokens: bytes, the places where things end, the tokens of a text, and what a byte by byte scan
-- makes of it.
pub mod Byte
pub mod Ends
pub mod Left
pub mod Scan
pub mod Tokens
