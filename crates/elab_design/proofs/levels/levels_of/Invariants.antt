-- The levels below the next one are given.
use Rattle.std.proofs.Common.{◌-◌}
use Rattle.elab_design.specs.Quiet.{AreLevels}
use Rattle.elab_design.proofs.levels.levels_of.Given as goal

abbrev pub invariant-levels : goal.invariant-levels
invariant-levels l = AreLevels l.definitions (l.level - 1) l.levels.items
