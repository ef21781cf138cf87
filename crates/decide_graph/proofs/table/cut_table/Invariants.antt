-- The values of the numbers so far.
use Rattle.std.proofs.Common.{◌≡◌, ◌<◌, ℕ, length, slice_index_or}
use Rattle.design_cell.specs.declared.value.Value.TheVariants.{X}
use Rattle.law_model.specs.Mask.{mask_of, masked}
use Rattle.decide_graph.proofs.table.cut_table.Given as goal

abbrev pub invariant-numbers : goal.invariant-numbers
invariant-numbers l = record {
  long : length l.cut.items ≡ l.number;
  are_values : (m : ℕ) → m < l.number → slice_index_or l.cut.items m X
      ≡ slice_index_or l.values (mask_of l.places (masked l.kept m)) X;
}
