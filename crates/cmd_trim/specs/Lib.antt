-- Definitions of the program xrtrim: its words, its phases, what a text is refused for, and what a run comes to.
pub mod Words
pub mod Cause
pub mod Phases
pub mod Commands
pub mod Done
