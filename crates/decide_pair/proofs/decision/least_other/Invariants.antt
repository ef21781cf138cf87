-- What is found in the blocks so far.
use Rattle.std.proofs.Common.{◌≡◌, ◌*◌, length}
use Rattle.decide_pair.specs.Found.{IsFoundIn}
use Rattle.decide_pair.proofs.decision.least_other.Given as goal

abbrev pub invariant-tries : goal.invariant-tries
invariant-tries l = (l.lane_table.nodes ≡ length l.cone.nodes) × IsFoundIn l.cone.nodes 0 (256 * l.block) l.found
