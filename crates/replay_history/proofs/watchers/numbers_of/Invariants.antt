-- The numbers of the variables so far.
use Rattle.std.proofs.Common.{◌≡◌, length}
use Rattle.replay_history.proofs.Bindings.{AreNumbersTo}
use Rattle.replay_history.proofs.watchers.numbers_of.Given as goal

abbrev pub invariant-variables : goal.invariant-variables
invariant-variables l = record {
  long : length l.numbers.items ≡ length l.recording.variables;
  are : AreNumbersTo l.bound l.number l.numbers.items;
}
