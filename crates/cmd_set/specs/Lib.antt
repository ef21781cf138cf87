-- Definitions of a set of commands.
pub mod Command
pub mod Set
