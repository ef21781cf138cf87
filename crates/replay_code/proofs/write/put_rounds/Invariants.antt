-- What is left to put leads to the whole.
use Rattle.std.proofs.Common.{◌≡◌, ◌++◌, ◌-◌}
use Rattle.replay_code.specs.Written.{round_lines}
use Rattle.replay_code.proofs.write.put_rounds.Given as goal

abbrev pub invariant-rounds : goal.invariant-rounds
invariant-rounds l = l.text.items ++ round_lines (l.count - l.counter) ≡ l.fn.text.items ++ round_lines l.count
