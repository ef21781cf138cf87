-- Definitions of base_shelf.
pub mod Calls
pub mod Errors
pub mod InHand
pub mod MemShelf
pub mod MemSink
pub mod NamedFiles
pub mod PlainShelf
pub mod PlainSink
pub mod Plan
pub mod Shelf
pub mod Sink
