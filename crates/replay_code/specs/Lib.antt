-- Definitions of replay_code: the text of code that forces nets, as it is written and as it is read.
pub mod Clock
pub mod Code
pub mod Fault
pub mod Found
pub mod Going
pub mod Grammar
pub mod Laws
pub mod Lookup
pub mod Machine
pub mod Names
pub mod Numbers
pub mod Says
pub mod Statements
pub mod Steps
pub mod View
pub mod Words
pub mod Written
