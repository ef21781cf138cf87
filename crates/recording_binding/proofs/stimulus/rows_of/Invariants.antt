-- The rows so far, and a row under way in which a net that is no held input has x.
use Rattle.std.proofs.Common.{◌≡◌, ℕ, [], ◌<◌, length, slice_index_or}
use Rattle.design_inputs.specs.Rows.{all_rows}
use Rattle.recording_binding.specs.StimOf as spec
use Rattle.recording_binding.proofs.stimulus.rows_of.Given as goal

abbrev pub invariant-moments : goal.invariant-moments
invariant-moments l = record {
  cursor : l.cursor ≡ l.recording;
  long : length l.writer.row ≡ length l.design.nets;
  others : spec.HasOthers l.design l.recording l.holders l.writer.row;
  as_many : length (all_rows l.writer) ≡ l.moment;
  rows : (moment : ℕ) → moment < l.moment → spec.IsRow l.design (spec.value_by l.design l.recording l.holders moment) (slice_index_or (all_rows l.writer) moment []);
}
