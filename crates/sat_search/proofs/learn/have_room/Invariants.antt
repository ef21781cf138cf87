-- The literals so far have marks.
use Rattle.std.proofs.Common.{◌+◌, ◌*◌, take}
use Rattle.std.specs.List.{All}
use Rattle.sat_proof.specs.Code.{HasRoom}
use Rattle.sat_search.proofs.learn.have_room.Given as goal

abbrev pub invariant-loop-k : goal.invariant-loop-k
invariant-loop-k l = All (HasRoom (2 * l.vars + 2)) (take l.k l.literals)
