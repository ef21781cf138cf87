-- The literals so far are false, with what follows from them.
use Rattle.std.proofs.Common.{◌++◌, take, List}
use Rattle.std.specs.Prelude.{ℤ}
use Rattle.sat_proof.specs.Premises.{all_in}
use Rattle.sat_proof.specs.Propagator.{LeadsBack}
use Rattle.sat_search.specs.Reach.{IsSettled, IsFrom}
use Rattle.sat_search.proofs.reach.reach_all.Given as goal

abbrev pub invariant-loop-k : goal.invariant-loop-k
invariant-loop-k l = record {
  settled : IsSettled l.propagator (all_in l.clauses);
  from : (c : List ℤ) → IsFrom l.initial.propagator.trail.marks.items (all_in l.clauses) c → IsFrom l.propagator.trail.marks.items (all_in l.clauses) (c ++ take l.k l.literals);
  back : LeadsBack l.initial.propagator l.propagator (all_in l.clauses);
}
