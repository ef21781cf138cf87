-- The decisions so far, with what follows from them.
use Rattle.std.proofs.Common.{◌≤◌, ◌-◌, length}
use Rattle.sat_proof.specs.Premises.{all_in}
use Rattle.sat_proof.specs.Propagator.{LeadsBack}
use Rattle.sat_proof.specs.Trail.{HasMarks}
use Rattle.sat_search.specs.Decide.{AreValued}
use Rattle.sat_search.specs.Reach.{IsSettled, IsFrom}
use Rattle.sat_search.proofs.decide.descend.Given as goal

abbrev pub invariant-levels : goal.invariant-levels
invariant-levels l = record {
  low : l.cursor ≤ l.vars;
  valued : AreValued l.propagator.trail.marks.items l.cursor;
  settled : IsSettled l.propagator (all_in l.clauses);
  from : IsFrom l.propagator.trail.marks.items (all_in l.clauses) l.decisions.items;
  room : HasMarks l.initial.propagator.trail l.decisions.items;
  back : LeadsBack l.initial.propagator l.propagator (all_in l.clauses);
}

abbrev pub decreases-levels : goal.decreases-levels
decreases-levels l = length l.initial.propagator.trail.marks.items - l.propagator.trail.len
