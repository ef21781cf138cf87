-- The values of the nets so far.
use Rattle.std.proofs.Common.{◌≡◌, ℕ, ◌<◌, length, slice_index_or}
use Rattle.design_cell.specs.declared.value.Value.TheVariants.{X}
use Rattle.cmd_make.proofs.stimulus.row_of.Given as goal

abbrev pub invariant-nets : goal.invariant-nets
invariant-nets l = record {
  long : length l.row.items ≡ l.net;
  values : (net : ℕ) → net < l.net → slice_index_or l.row.items net X ≡ slice_index_or l.values net X;
}
