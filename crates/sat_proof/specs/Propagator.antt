-- What a propagator has of clauses, and what is promised of each step.
use Rattle.std.specs.Prelude.{◌≡◌, true, ℕ, List, [], ℤ}
use Rattle.std.specs.List.{All}
use Rattle.sat_proof.specs.Closed.{IsQuiet}
use Rattle.sat_proof.specs.Guard.{AreSafeIfOn, IsPropagatingBut, IsPropagatingFrom, StaysSafe, Watches}
use Rattle.sat_proof.specs.Propagation.{IsBase, IsGrowth}
use Rattle.sat_proof.specs.Trail.{held, HaveMarks, IsEmpty, IsSameTrail, StaysOver}
use Rattle.sat_proof.specs.Watch.{IsLaced}
use Rattle.sat_proof.specs.declared.propagator.Propagator.{Propagator}

-- nothing is false, and no clause is taken in
pub record IsUnstarted (p : Propagator) : Type 0 where
  pub empty : IsEmpty p.trail
  pub none : IsLaced p.watch [] 0 0

-- the clauses are taken in, and what is late came since what was read
pub record CanPropagate (p : Propagator) (clauses : List (List ℤ)) : Type 0 where
  pub room : HaveMarks p.trail clauses
  pub laced : p.watch.on ≡ true → IsLaced p.watch clauses 0 0
  pub tracing : IsPropagatingFrom p.trail p.trail p.watch clauses p.trail.read

-- the entries of the chain from `head` wait to be looked at
abbrev pub AreWaiting : Propagator → List (List ℤ) → ℕ → Type 0
AreWaiting p clauses head = IsPropagatingBut p.trail p.trail p.watch clauses p.trail.read head

-- all is propagated, and no clause became false
pub record HasPropagated (old new : Propagator) (clauses : List (List ℤ)) : Type 0 where
  pub growth : IsGrowth old.trail.marks.items new.trail.marks.items clauses
  pub quiet : All (IsQuiet (held new.trail)) clauses
  pub read : new.trail.read ≡ new.trail.len
  pub safe : AreSafeIfOn new.watch new.trail.marks.items clauses

-- An undo leads back: the trail is over what it was over, and what was safe under marks that these have stays so.
pub record LeadsBack (old new : Propagator) (clauses : List (List ℤ)) : Type 0 where
  pub over : StaysOver old.trail new.trail
  pub laced : new.watch.on ≡ true → IsLaced new.watch clauses 0 0
  pub stays : StaysSafe old.watch new.watch old.trail.marks.items clauses
  pub on : new.watch.on ≡ old.watch.on

-- what the clauses propagate with nothing assumed is on the trail, and the watches serve
pub record IsAtBase (p : Propagator) (clauses : List (List ℤ)) : Type 0 where
  pub room : HaveMarks p.trail clauses
  pub base : IsBase p.trail clauses
  pub watches : Watches p.watch p.trail.marks.items clauses

-- a question was asked, and the trail is as it was
pub record ComesBack (old new : Propagator) (clauses : List (List ℤ)) : Type 0 where
  pub base : IsAtBase new clauses
  pub kept : IsSameTrail old.trail new.trail
