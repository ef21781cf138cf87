-- What is defined so far, and then by the tokens that are left, is defined by all.
use Rattle.std.proofs.Common.{◌≡◌, ℕ, List, ◌++◌, length}
use Rattle.netlist_trim.specs.Definition.{Defined, Defines, Unclosed}
use Rattle.netlist_trim.proofs.definition.read_definitions.Given as goal

abbrev pub invariant-definitions : goal.invariant-definitions
invariant-definitions l = record {
  defined : (ds : List Defined) → Defines l.tokens.tokens ds → Defines l.fn.tokens.tokens (l.found.items ++ ds);
  unclosed : (at : ℕ) → Unclosed l.tokens.tokens at → Unclosed l.fn.tokens.tokens at;
  fault : l.tokens.fault ≡ l.fn.tokens.fault;
}

abbrev pub decreases-definitions : goal.decreases-definitions
decreases-definitions l = length l.tokens.tokens
