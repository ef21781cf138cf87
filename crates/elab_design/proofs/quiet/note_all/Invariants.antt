-- What is left decides, behind the names so far.
use Rattle.std.proofs.Common.{◌≡◌, drop}
use Rattle.elab_design.specs.Quiet.{are_quiet}
use Rattle.elab_design.proofs.quiet.note_all.Given as goal

abbrev pub invariant-items : goal.invariant-items
invariant-items l = are_quiet l.definitions l.levels l.level l.fn.names l.items ≡ are_quiet l.definitions l.levels l.level l.names (drop l.item-index l.items)
