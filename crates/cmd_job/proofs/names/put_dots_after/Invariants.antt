-- What is left to put leads to the whole.
use Rattle.std.proofs.Common.{◌≡◌, ◌++◌, drop}
use Rattle.cmd_job.specs.Names.{dots_after}
use Rattle.cmd_job.proofs.names.put_dots_after.Given as goal

abbrev pub invariant-names : goal.invariant-names
invariant-names l = l.text.items ++ dots_after (drop l.name-index l.names) ≡ l.fn.text.items ++ dots_after l.names
