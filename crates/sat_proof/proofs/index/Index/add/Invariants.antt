-- The index has the clause with its literals so far.
use Rattle.std.proofs.Common.{◌≡◌, ◌+◌, List, ℤ, ◌++◌, ◌∷◌, [], take, length}
use Rattle.sat_proof.specs.Index.{IsIndexed}
use Rattle.sat_proof.proofs.index.Index.add.Given as goal

abbrev pub invariant-loop-k : goal.invariant-loop-k
invariant-loop-k l = record {
  size : length l.self.heads.items ≡ length l.initial.self.heads.items;
  used : l.self.used ≡ l.initial.self.used + l.k;
  nexts : length l.self.nexts.items ≡ length l.initial.self.nexts.items;
  indexed : (clauses : List (List ℤ)) → l.owner ≡ length clauses → IsIndexed l.initial.self clauses → IsIndexed l.self (clauses ++ take l.k l.literals ∷ []);
}
