-- The best place so far is one of the clause.
use Rattle.std.proofs.Common.{◌<◌, length}
use Rattle.sat_proof.proofs.index.Index.rarest.Given as goal

abbrev pub invariant-loop-k : goal.invariant-loop-k
invariant-loop-k l = l.best < length l.literals
