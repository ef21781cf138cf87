-- The index serves the clauses so far.
use Rattle.std.proofs.Common.{◌≡◌, take, length}
use Rattle.sat_proof.specs.Index.{Serves}
use Rattle.sat_proof.proofs.index.Index.load.Given as goal

abbrev pub invariant-loop-n : goal.invariant-loop-n
invariant-loop-n l = record {
  size : length l.self.heads.items ≡ length l.initial.self.heads.items;
  served : Serves l.self (take l.n l.clauses);
}
