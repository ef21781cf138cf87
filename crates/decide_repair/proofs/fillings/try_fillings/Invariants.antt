-- The room stays that of the cone.
use Rattle.std.proofs.Common.{◌≡◌, length}
use Rattle.decide_repair.proofs.fillings.try_fillings.Given as goal

abbrev pub invariant-passes : goal.invariant-passes
invariant-passes l = l.lane_table.nodes ≡ length l.cone.nodes
