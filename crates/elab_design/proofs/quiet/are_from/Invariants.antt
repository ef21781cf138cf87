-- What is left decides.
use Rattle.std.proofs.Common.{◌≡◌, drop}
use Rattle.elab_design.specs.Quiet.{are_from}
use Rattle.elab_design.proofs.quiet.are_from.Given as goal

abbrev pub invariant-path : goal.invariant-path
invariant-path l = are_from l.levels l.level l.path ≡ are_from l.levels l.level (drop l.k-index l.path)
