-- The first rows are added.
use Rattle.std.proofs.Common.{◌≡◌, ◌++◌, length, take}
use Rattle.design_inputs.specs.Rows.{all_rows}
use Rattle.design_inputs.proofs.writer.InputsWriter.add_rows.Given as goal

abbrev pub invariant-rows : goal.invariant-rows
invariant-rows l = record {
  all : all_rows l.self ≡ all_rows l.initial.self ++ take l.row-index l.rows;
  long : length l.self.row ≡ length l.initial.self.row;
}
