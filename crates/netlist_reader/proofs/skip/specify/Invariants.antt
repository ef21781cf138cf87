-- What was skipped of a specify block leaves the run where it was.
use Rattle.std.proofs.Common.{◌≡◌, ◌≤◌, length}
use Rattle.netlist_grammar.specs.Machine.{goes, in_specify}
use Rattle.netlist_grammar.specs.Trees.{Under}
use Rattle.netlist_reader.proofs.skip.specify.Given as goal

abbrev pub invariant-tokens : goal.invariant-tokens
invariant-tokens l = record {
  reads : (u : Under) → goes (in_specify u) l.fn.tokens ≡ goes (in_specify u) l.tokens;
  shortens : length l.tokens.tokens ≤ length l.fn.tokens.tokens;
}

abbrev pub decreases-tokens : goal.decreases-tokens
decreases-tokens l = length l.tokens.tokens
