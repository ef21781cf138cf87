-- The run over the rows of a table goes on from the rows so far.
use Rattle.std.proofs.Common.{◌≡◌, ◌≤◌, [], List, length}
use Rattle.netlist_grammar.specs.Machine.{goes, first_row}
use Rattle.netlist_grammar.specs.Trees.{within}
use Rattle.netlist_grammar.specs.declared.tree.Source.{Source}
use Rattle.netlist_grammar.specs.declared.tree.Word.{Word}
use Rattle.netlist_grammar.specs.Trees.{is_sequential}
use Rattle.netlist_grammar.specs.declared.tree.PrimDeclare.{PrimDeclare}
use Rattle.netlist_reader.proofs.table.rows.Given as goal

abbrev pub invariant-rows : goal.invariant-rows
invariant-rows l = record {
  reads : (b : Source) (n : Word) (ps : List Word) (ds : List PrimDeclare) → is_sequential ds ≡ l.sequential
      → goes (first_row (within b n ps ds [])) l.fn.tokens ≡ goes (first_row (within b n ps ds l.rows.items)) l.tokens;
  shortens : length l.tokens.tokens ≤ length l.fn.tokens.tokens;
}

abbrev pub decreases-rows : goal.decreases-rows
decreases-rows l = length l.tokens.tokens
