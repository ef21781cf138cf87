use Rattle.std.proofs.Common.{◌≡◌, length}
use Rattle.decide_choices.proofs.AgreedTables.{AgreeBelow}
use Rattle.decide_choices.proofs.halves.both_of.Given as goal

abbrev pub invariant-values : goal.invariant-values
invariant-values l = record {
  long : length l.both.items ≡ l.i;
  agree : AgreeBelow l.bit l.low l.high l.both.items l.i;
}
