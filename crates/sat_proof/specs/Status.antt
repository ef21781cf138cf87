-- What marks make of a literal and of a clause.
use Rattle.std.specs.Prelude.{◌≡◌, ◌≢◌, ◌<◌, ℕ, Bool, true, false, List, length, ℤ, pos, neg_ℤ, Option, Some, None}
use Rattle.std.specs.List.{Contains, slice_index_or}
use Rattle.sat_proof.specs.Closed.{IsFalse}
use Rattle.sat_proof.specs.Code.{is_false}
use Rattle.sat_proof.specs.declared.clause_status.Status.{Status}
use Rattle.sat_proof.specs.declared.clause_status.Status.TheVariants.{Met, False, Unit as Forces, Two}
use Rattle.sat_proof.specs.declared.clause_status.Value.{Value}
use Rattle.sat_proof.specs.declared.clause_status.Value.TheVariants.{True, False as Untrue, Open}

abbrev pub literal_at : List ℤ → ℕ → ℤ
literal_at clause k = slice_index_or clause k (pos 0)

-- neither the literal nor its complement is false
abbrev pub IsOpen : List Bool → ℤ → Type 0
IsOpen marks l = (is_false marks l ≡ false) × (is_false marks (neg_ℤ l) ≡ false)

abbrev pub IsValue : List Bool → ℤ → Value → Type 0
IsValue marks l True = is_false marks (neg_ℤ l) ≡ true
IsValue marks l Untrue = is_false marks l ≡ true
IsValue marks l Open = IsOpen marks l

-- the literal at k is open, and each other one before n is false
pub record IsOnlyOpen (marks : List Bool) (clause : List ℤ) (n k : ℕ) : Type 0 where
  pub below : k < length clause
  pub is_open : IsOpen marks (literal_at clause k)
  pub others : (i : ℕ) → i < n → literal_at clause i ≢ literal_at clause k → is_false marks (literal_at clause i) ≡ true

-- a literal of the clause is true
abbrev pub Holds : List Bool → List ℤ → Type 0
Holds marks clause = (l : ℤ) × Contains clause l × (is_false marks (neg_ℤ l) ≡ true)

-- two different literals, at j and k, are open
pub record AreOpen (marks : List Bool) (clause : List ℤ) (j k : ℕ) : Type 0 where
  pub below : j < length clause
  pub other_below : k < length clause
  pub is_open : IsOpen marks (literal_at clause j)
  pub other_open : IsOpen marks (literal_at clause k)
  pub differ : literal_at clause j ≢ literal_at clause k

abbrev pub IsStatus : List Bool → List ℤ → Status → Type 0
IsStatus marks clause Met = Holds marks clause
IsStatus marks clause False = IsFalse (is_false marks) clause
IsStatus marks clause (Forces k) = IsOnlyOpen marks clause (length clause) k
IsStatus marks clause (Two j k) = AreOpen marks clause j k

-- what was seen of the first n literals
abbrev pub HasSeen : List Bool → List ℤ → ℕ → Option ℕ → Type 0
HasSeen marks clause n None = (i : ℕ) → i < n → is_false marks (literal_at clause i) ≡ true
HasSeen marks clause n (Some k) = IsOnlyOpen marks clause n k
