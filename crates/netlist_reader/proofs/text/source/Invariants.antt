-- The run over the whole text goes on from the modules and primitives so far.
use Rattle.std.proofs.Common.{◌≡◌, ◌≤◌, length}
use Rattle.netlist_grammar.specs.Machine.{goes, parse_of, top}
use Rattle.netlist_grammar.specs.Trees.{source_of}
use Rattle.netlist_reader.proofs.text.source.Given as goal

abbrev pub invariant-texts : goal.invariant-texts
invariant-texts l = record {
  reads : parse_of l.fn.tokens ≡ goes (top (source_of l.modules.items l.primitives.items)) l.tokens;
  shortens : length l.tokens.tokens ≤ length l.fn.tokens.tokens;
}

abbrev pub decreases-texts : goal.decreases-texts
decreases-texts l = length l.tokens.tokens
