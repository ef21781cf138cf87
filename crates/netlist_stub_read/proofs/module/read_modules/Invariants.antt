-- What is defined so far, and then by the tokens that are left, is defined by all.
use Rattle.std.proofs.Common.{◌≡◌, ℕ, List, ◌++◌, length}
use Rattle.netlist_trim.specs.Definition.{Unclosed}
use Rattle.netlist_stub_read.specs.Modules.{Holds, Module}
use Rattle.netlist_stub_read.proofs.module.read_modules.Given as goal

abbrev pub invariant-modules : goal.invariant-modules
invariant-modules l = record {
  held : (ms : List Module) → Holds l.tokens.tokens ms → Holds l.fn.tokens.tokens (l.found.items ++ ms);
  unclosed : (at : ℕ) → Unclosed l.tokens.tokens at → Unclosed l.fn.tokens.tokens at;
  fault : l.tokens.fault ≡ l.fn.tokens.fault;
}

abbrev pub decreases-modules : goal.decreases-modules
decreases-modules l = length l.tokens.tokens
