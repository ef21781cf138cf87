-- The literals that are kept so far are needed, and the clause with what is left of the rest follows.
use Rattle.std.proofs.Common.{◌≤◌, ◌++◌, length, take}
use Rattle.sat_proof.specs.Premises.{all_in}
use Rattle.sat_proof.specs.Closed.{NoneResists}
use Rattle.sat_proof.specs.Propagator.{ComesBack}
use Rattle.sat_proof.specs.Trail.{HasMarks}
use Rattle.sat_search.specs.Learn.{AreNeeded, IsExtended}
use Rattle.sat_search.proofs.tighten.tighten.Given as goal

abbrev pub invariant-rounds : goal.invariant-rounds
invariant-rounds l = record {
  low : l.len ≤ length l.rest;
  back : ComesBack l.initial.propagator l.propagator (all_in l.clauses);
  room : HasMarks l.initial.propagator.trail l.kept.items;
  needed : AreNeeded (all_in l.clauses) l.kept.items (take l.len l.rest);
  follows : NoneResists (all_in l.clauses) (l.initial.kept.items ++ l.rest) → NoneResists (all_in l.clauses) (l.kept.items ++ take l.len l.rest);
  extended : IsExtended l.initial.kept.items l.rest l.kept.items;
}

abbrev pub decreases-rounds : goal.decreases-rounds
decreases-rounds l = l.len
