-- The stars read so far close nothing: the run still stands at a star.
use Rattle.std.proofs.Common.{◌≡◌, ◌<◌, length}
use Rattle.netlist_grammar.specs.Machine.{goes, Place, attr_open, attr_star}
use Rattle.netlist_reader.proofs.skip.attribute.Given as goal

abbrev pub invariant-stars : goal.invariant-stars
invariant-stars l = record {
  reads : (k : Place) → goes (attr_open k) l.fn.tokens ≡ goes (attr_star k) l.tokens;
  shortens : length l.tokens.tokens < length l.fn.tokens.tokens;
}

abbrev pub decreases-stars : goal.decreases-stars
decreases-stars l = length l.tokens.tokens
