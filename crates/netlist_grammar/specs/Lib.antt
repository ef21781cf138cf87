-- The grammar of netlists: tokens, trees, rules, the machine that reads them, and refusals.
pub mod Bytes
pub mod Numbers
pub mod Lexemes
pub mod Trees
pub mod Machine
pub mod Rules
pub mod Expressions
pub mod Items
pub mod Primitives
pub mod Text
pub mod Refusal
pub mod Fault
pub mod Source
pub mod Whole
