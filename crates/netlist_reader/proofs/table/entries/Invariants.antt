-- The run over the entries of a row goes on from those so far.
use Rattle.std.proofs.Common.{◌≡◌, ◌<◌, length}
use Rattle.netlist_grammar.specs.Machine.{goes, first_row, in_row}
use Rattle.netlist_grammar.specs.Trees.{Within}
use Rattle.netlist_reader.proofs.table.entries.Given as goal

abbrev pub invariant-entries : goal.invariant-entries
invariant-entries l = record {
  reads : (p : Within) → goes (first_row p) l.fn.tokens ≡ goes (in_row p l.entries.items) l.tokens;
  shortens : length l.tokens.tokens < length l.fn.tokens.tokens;
}

abbrev pub decreases-entries : goal.decreases-entries
decreases-entries l = length l.tokens.tokens
