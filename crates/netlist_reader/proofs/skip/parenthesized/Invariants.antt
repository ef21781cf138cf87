-- What was skipped within the parentheses of a delay leaves the run there; the depth is bounded by what was read.
use Rattle.std.proofs.Common.{◌≡◌, ◌+◌, ◌≤◌, length}
use Rattle.netlist_grammar.specs.Machine.{goes, Delayed, in_delay}
use Rattle.netlist_reader.proofs.skip.parenthesized.Given as goal

abbrev pub invariant-tokens : goal.invariant-tokens
invariant-tokens l = record {
  reads : (k : Delayed) → goes (in_delay k 0) l.fn.tokens ≡ goes (in_delay k l.depth) l.tokens;
  fits : l.depth + length l.tokens.tokens ≤ length l.fn.tokens.tokens;
}

abbrev pub decreases-tokens : goal.decreases-tokens
decreases-tokens l = length l.tokens.tokens
