-- What the inputs so far made of the row.
use Rattle.std.proofs.Common.{◌≡◌, ℕ, length, slice_index_or, take}
use Rattle.design_cell.specs.declared.value.Value.TheVariants.{X}
use Rattle.recording_binding.specs.StimOf as spec
use Rattle.recording_binding.proofs.stimulus.set_inputs.Given as goal

abbrev pub invariant-inputs : goal.invariant-inputs
invariant-inputs l = record {
  before : l.writer.before ≡ l.initial.writer.before;
  long : length l.writer.row ≡ length l.initial.writer.row;
  same : l.cursor ≡ l.initial.cursor;
  set : (net : ℕ) → slice_index_or l.writer.row net X ≡ spec.set_from l.initial.cursor l.moment (take l.input-index l.inputs) net (slice_index_or l.initial.writer.row net X);
}
