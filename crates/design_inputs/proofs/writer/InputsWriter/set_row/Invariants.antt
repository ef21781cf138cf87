-- The first values are given.
use Rattle.std.proofs.Common.{◌≡◌, length, take}
use Rattle.design_inputs.proofs.writer.InputsWriter.set_row.Given as goal

abbrev pub invariant-nets : goal.invariant-nets
invariant-nets l = record {
  before : l.self.before ≡ l.initial.self.before;
  long : length l.self.row ≡ length l.row;
  values : take l.net l.self.row ≡ take l.net l.row;
}
