-- What the nets so far start with.
use Rattle.std.proofs.Common.{◌≡◌, ℕ, ◌<◌, length, slice_index_or}
use Rattle.design_cell.specs.declared.value.Value.TheVariants.{X}
use Rattle.cmd_make.specs.Stimulus.{made_start}
use Rattle.cmd_make.proofs.stimulus.starts_of.Given as goal

abbrev pub invariant-nets : goal.invariant-nets
invariant-nets l = record {
  long : length l.starts.items ≡ l.net;
  values : (net : ℕ) → net < l.net → slice_index_or l.starts.items net X ≡ made_start l.design net;
}
