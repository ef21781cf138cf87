-- What watches are good for: a clause is looked at before propagation comes to its end with a watched literal false.
use Rattle.std.specs.Prelude.{◌≡◌, ◌≢◌, ◌≤◌, ◌<◌, ◌+◌, ◌*◌, ◌⊎◌, ℕ, Bool, true, false, List, length, ℤ, pos, neg_ℤ}
use Rattle.std.specs.Prelude.{Option, Some, None}
use Rattle.std.specs.List.{All}
use Rattle.sat_proof.specs.Closed.{IsFalse}
use Rattle.sat_proof.specs.Code.{code_of, is_false, HasRoom, IsMarkedWithin}
use Rattle.sat_proof.specs.Log.{clause_at}
use Rattle.sat_proof.specs.Status.{literal_at, IsOpen, IsOnlyOpen, AreOpen, Holds}
use Rattle.sat_proof.specs.Propagation.{IsGrowth}
use Rattle.sat_proof.specs.Trail.{code_at, IsPush, StaysOver}
use Rattle.sat_proof.specs.Watch.{Leads, watched, IsPair, IsLaced, IsMoved, IsAdded, AreTwins}
use Rattle.sat_proof.specs.declared.trail.Trail.{Trail}
use Rattle.sat_proof.specs.declared.watched_clause.Action.{Action}
use Rattle.sat_proof.specs.declared.watched_clause.Action.TheVariants.{Rests, Moves, Forces, Fails}
use Rattle.sat_proof.specs.declared.watch.Watch.{Watch}

-- both entries of clause n watch a literal, and each is late where its literal is false
pub record IsAwake (x : Watch) (marks : List Bool) (n : ℕ) (Late : ℕ → Type 0) : Type 0 where
  pub some : watched x (2 * n) ≢ pos 0
  pub other : watched x (2 * n + 1) ≢ pos 0
  pub first : is_false marks (watched x (2 * n)) ≡ true → Late (2 * n)
  pub second : is_false marks (watched x (2 * n + 1)) ≡ true → Late (2 * n + 1)

-- each clause is true or awake
abbrev pub AreGuarded : Watch → List Bool → List (List ℤ) → (ℕ → Type 0) → Type 0
AreGuarded x marks clauses Late =
    (n : ℕ) → n < length clauses → Holds marks (clause_at clauses n) ⊎ IsAwake x marks n Late

-- the same with no entry late: no watched literal of a clause is false that isn't true
abbrev pub AreSafe : Watch → List Bool → List (List ℤ) → Type 0
AreSafe x marks clauses = AreGuarded x marks clauses (λ _. ⊥)

-- the literal came at place `from` or later
abbrev pub IsSince : Trail → ℕ → ℤ → Type 0
IsSince t from l = (j : ℕ) × (from ≤ j) × (j < t.len) × (code_at t j ≡ code_of l)

-- Propagation is under way: an entry is late only if its literal came at place `from` or later, or it still waits to be
-- looked at.
pub record IsPropagating (old now : Trail) (x : Watch) (clauses : List (List ℤ)) (from : ℕ)
    (Waits : ℕ → Type 0) : Type 0 where
  pub growth : IsGrowth old.marks.items now.marks.items clauses
  pub low : from ≤ now.len
  pub over : StaysOver old now
  pub guarded : x.on ≡ true → AreGuarded x now.marks.items clauses (λ e. IsSince now from (watched x e) ⊎ Waits e)

-- none waits any more
abbrev pub IsPropagatingFrom : Trail → Trail → Watch → List (List ℤ) → ℕ → Type 0
IsPropagatingFrom old now x clauses from = IsPropagating old now x clauses from (λ _. ⊥)

-- the entries of the chain from `head` wait
abbrev pub IsPropagatingBut : Trail → Trail → Watch → List (List ℤ) → ℕ → ℕ → Type 0
IsPropagatingBut old now x clauses from head = IsPropagating old now x clauses from (λ e. Leads x.nexts.items e head)

-- the same where the watches are on
abbrev pub AreSafeIfOn : Watch → List Bool → List (List ℤ) → Type 0
AreSafeIfOn x marks clauses = x.on ≡ true → AreSafe x marks clauses

-- each literal of the clause but one is false
abbrev pub AreRestFalse : List Bool → List ℤ → ℤ → Type 0
AreRestFalse marks clause other =
    (i : ℕ) → i < length clause → literal_at clause i ≢ other → is_false marks (literal_at clause i) ≡ true

-- a place of a literal that isn't false, nor the other one
pub record IsFree (marks : List Bool) (clause : List ℤ) (other : ℤ) (k : ℕ) : Type 0 where
  pub below : k < length clause
  pub free : is_false marks (literal_at clause k) ≡ false
  pub differs : literal_at clause k ≢ other

abbrev pub IsSought : List Bool → List ℤ → ℤ → Option ℕ → Type 0
IsSought marks clause other None = AreRestFalse marks clause other
IsSought marks clause other (Some k) = IsFree marks clause other k

abbrev pub IsAction : List Bool → List ℤ → ℤ → Action → Type 0
IsAction marks clause other Rests = is_false marks (neg_ℤ other) ≡ true
IsAction marks clause other (Moves k) = IsFree marks clause other k
IsAction marks clause other Forces = IsOpen marks other × AreRestFalse marks clause other
IsAction marks clause other Fails = (is_false marks other ≡ true) × AreRestFalse marks clause other

-- What a look at the clause of entry e did, whose other entry is f: nothing, since f's literal is true; or e watches
-- another literal; or f's literal, the only one that isn't false, became true.
pub data IsHandled (old new : Trail) (x y : Watch) (clause : List ℤ) (e f : ℕ) : Type 0 where
  rests : new ≡ old → y ≡ x → is_false old.marks.items (neg_ℤ (watched x f)) ≡ true → IsHandled old new x y clause e f
  moves : (k : ℕ) → new ≡ old → IsMoved x y e (literal_at clause k) → IsFree old.marks.items clause (watched x f) k
      → IsHandled old new x y clause e f
  forces : IsPush old new (code_of (neg_ℤ (watched x f))) → y ≡ x → IsOpen old.marks.items (watched x f)
      → AreRestFalse old.marks.items clause (watched x f) → IsHandled old new x y clause e f

-- a look at the clause of entry e
pub record IsVisited (old new : Trail) (x y : Watch) (clauses : List (List ℤ)) (e : ℕ) : Type 0 where
  pub twin : ℕ
  pub owner : ℕ
  pub below : owner < length clauses
  pub twins : AreTwins e twin owner
  pub pair : IsPair (clause_at clauses owner) (watched x e) (watched x twin)
  pub room : All (HasRoom (length old.marks.items)) (clause_at clauses owner)
  pub turn : IsHandled old new x y (clause_at clauses owner) e twin

-- one of the clauses is false
abbrev pub IsAnyFalse : (ℤ → Bool) → List (List ℤ) → Type 0
IsAnyFalse f clauses = (n : ℕ) × (n < length clauses) × IsFalse f (clause_at clauses n)

-- what is safe under marks that these have stays so
abbrev pub StaysSafe : Watch → Watch → List Bool → List (List ℤ) → Type 0
StaysSafe old new marks clauses =
    (base : List Bool) → IsMarkedWithin base (is_false marks) → AreSafe old base clauses → AreSafe new base clauses

-- the watches are those of the clauses, and safe
pub record IsServing (x : Watch) (marks : List Bool) (clauses : List (List ℤ)) : Type 0 where
  pub laced : IsLaced x clauses 0 0
  pub safe : AreSafe x marks clauses

-- they serve if they are on
abbrev pub Watches : Watch → List Bool → List (List ℤ) → Type 0
Watches x marks clauses = x.on ≡ true → IsServing x marks clauses

-- watches that serve go on to
abbrev pub GoesOnServing : Watch → Watch → Type 0
GoesOnServing old new =
    (marks : List Bool) (clauses : List (List ℤ)) → Watches old marks clauses → Watches new marks clauses

-- A clause was taken in: it is true and watches nothing, or its only open literal became true, or it watches two open
-- ones.
pub data IsTakenIn (old new : Trail) (x y : Watch) (clause : List ℤ) : Type 0 where
  met : new ≡ old → Holds old.marks.items clause → (y.on ≡ true → IsAdded x y (pos 0) (pos 0))
      → IsTakenIn old new x y clause
  forced : (k : ℕ) → IsOnlyOpen old.marks.items clause (length clause) k
      → IsPush old new (code_of (neg_ℤ (literal_at clause k)))
      → (y.on ≡ true → IsAdded x y (pos 0) (pos 0)) → IsTakenIn old new x y clause
  watching : (j k : ℕ) → new ≡ old → AreOpen old.marks.items clause j k
      → (y.on ≡ true → IsAdded x y (literal_at clause j) (literal_at clause k)) → IsTakenIn old new x y clause
