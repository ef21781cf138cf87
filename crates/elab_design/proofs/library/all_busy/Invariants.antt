-- The busy items of the modules so far.
use Rattle.std.proofs.Common.{◌≡◌, map, take}
use Rattle.elab_design.specs.Busy.{busy_of_module}
use Rattle.elab_design.proofs.library.all_busy.Given as goal

abbrev pub invariant-modules : goal.invariant-modules
invariant-modules l = l.all.items ≡ map (busy_of_module l.definitions l.levels) (take l.unit-index l.modules)
