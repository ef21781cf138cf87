-- The tokens up to a star leave the run within the attribute.
use Rattle.std.proofs.Common.{◌≡◌, ◌≤◌, length}
use Rattle.netlist_grammar.specs.Machine.{goes, Place, in_attr}
use Rattle.netlist_reader.proofs.skip.star.Given as goal

abbrev pub invariant-tokens : goal.invariant-tokens
invariant-tokens l = record {
  reads : (k : Place) → goes (in_attr k) l.fn.tokens ≡ goes (in_attr k) l.tokens;
  shortens : length l.tokens.tokens ≤ length l.fn.tokens.tokens;
}

abbrev pub decreases-tokens : goal.decreases-tokens
decreases-tokens l = length l.tokens.tokens
