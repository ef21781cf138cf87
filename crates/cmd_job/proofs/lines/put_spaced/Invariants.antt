-- What is left to put leads to the whole.
use Rattle.std.proofs.Common.{◌≡◌, ◌++◌, drop}
use Rattle.cmd_job.specs.Lines.{spaced}
use Rattle.cmd_job.proofs.lines.put_spaced.Given as goal

abbrev pub invariant-names : goal.invariant-names
invariant-names l = l.text.items ++ spaced (drop l.name-index l.names) ≡ l.fn.text.items ++ spaced l.names
