-- The turn query of a list: the clauses whose models are the choices that obey the list and give the place its other
-- value.
use Rattle.std.specs.Prelude.{◌≡◌, ◌≢◌, ℕ, ℤ, ◌+◌, ◌||◌, Bool, true, false, not, List, [], ◌∷◌, ◌++◌, if◌then◌else◌}
use Rattle.std.specs.Prelude.{length, map, slice_index_or, Contains}
use Rattle.std.specs.List.{AllPairs}
use Rattle.design_cell.specs.declared.value.Value.{Value}
use Rattle.design_cell.specs.Value.{bit_value}
use Rattle.design_circuit.specs.Job.{Job}
use Rattle.design_circuit.specs.Order.{position_of}
use Rattle.design_circuit.specs.Rule.{rule}
use Rattle.design_circuit.specs.World.{decided}
use Rattle.sat_proof.specs.declared.clause.Cnf.{Cnf}
use Rattle.law_model.specs.Assignment.{argument_places}
use Rattle.law_model.specs.Places.{among, places_where}
use Rattle.law_model.specs.Class.{class_of, flipped}
use Rattle.law_model.specs.Cone.{in_cone, is_carried}
use Rattle.law_model.specs.Query.{IsChoice, IsClause, is_variable, signed}
use Rattle.law_model.specs.Root.{Root, root_of}
use Rattle.decide_cone.specs.Boundary.{is_boundary}

-- The places of the cone that aren't carried and those of its boundary, together in place order. Variable n + 1
-- stands for the place at position n.
abbrev pub is_turn_variable : Job → (ℕ → Value) → ℕ → ℕ → Bool
is_turn_variable j certain root k = is_variable j certain root k || is_boundary j certain root k

unfoldable pub turn_variables : Job → (ℕ → Value) → ℕ → List ℕ
turn_variables j certain root = places_where (is_turn_variable j certain root) (root + 1)

-- A place of the cone is the literal of its root, a boundary place is its own.
abbrev pub turn_root : Job → (ℕ → Value) → ℕ → ℕ → Root
turn_root j certain root k =
    if in_cone j certain root k then root_of j certain k else record { place = k; inverted = false }

abbrev pub turn_variable_of : Job → (ℕ → Value) → ℕ → ℕ → ℕ
turn_variable_of j certain root k = position_of (turn_variables j certain root) (turn_root j certain root k).place

-- The literal that says that a place has a bit.
unfoldable pub turn_literal : Job → (ℕ → Value) → ℕ → ℕ → Bool → ℤ
turn_literal j certain root k bit =
    signed (turn_variable_of j certain root k) (flipped (turn_root j certain root k).inverted bit)

-- The rule of a place on any bits, also for its certain argument places.
abbrev pub whole_table : Job → (ℕ → Value) → ℕ → (ℕ → Bool) → Value
whole_table j certain place bits = rule j certain bits place

-- A clause of the cone: that of a minimal choice of bits for argument places, certain ones among them, of a place that
-- isn't carried.
pub record IsWholeClause (j : Job) (certain : ℕ → Value) (root : ℕ) (clause : List ℤ) : Type 0 where
  pub place : ℕ
  pub bit : Bool
  pub chosen : ℕ → Bool
  pub bits : ℕ → Bool
  pub inside : in_cone j certain root place ≡ true
  pub free : is_carried (class_of j certain place) ≡ false
  pub choice : IsChoice (argument_places j certain place) (whole_table j certain place) chosen bits bit
  pub is_clause : IsClause (turn_literal j certain root) place chosen bits bit clause

-- The unit clause of a listed place's value.
pub record IsGivenClause (j : Job) (certain : ℕ → Value) (root : ℕ) (listed : List ℕ) (clause : List ℤ) : Type 0 where
  pub place : ℕ
  pub bit : Bool
  pub listed_is : among listed place ≡ true
  pub has : certain place ≡ bit_value bit
  pub is_clause : clause ≡ turn_literal j certain root place bit ∷ []

-- The unit clause that denies the value of the place.
abbrev pub turn_denial : Job → (ℕ → Value) → ℕ → Bool → List ℤ
turn_denial j certain root value = turn_literal j certain root root (not value) ∷ []

pub data IsTurnClause (j : Job) (certain : ℕ → Value) (root : ℕ) (value : Bool) (listed : List ℕ)
    (clause : List ℤ) : Type 0 where
  whole : IsWholeClause j certain root clause → IsTurnClause j certain root value listed clause
  given : IsGivenClause j certain root listed clause → IsTurnClause j certain root value listed clause
  denial : clause ≡ turn_denial j certain root value → IsTurnClause j certain root value listed clause

-- The turn query of a list is a formula over its variables of exactly these clauses, each of which stands once. The
-- last one is the denial.
pub record IsTurnQuery (j : Job) (certain : ℕ → Value) (root : ℕ) (value : Bool) (listed : List ℕ)
    (query : Cnf) : Type 0 where
  pub vars : query.vars ≡ length (turn_variables j certain root)
  pub each : (clause : List ℤ) → Contains query.clauses clause → IsTurnClause j certain root value listed clause
  pub all : (clause : List ℤ) → IsTurnClause j certain root value listed clause → Contains query.clauses clause
  pub once : AllPairs (λ a b. a ≢ b) query.clauses
  pub front : List (List ℤ)
  pub last : query.clauses ≡ front ++ turn_denial j certain root value ∷ []

-- Clauses are those of the cone, each once.
pub record AreWholeClauses (j : Job) (certain : ℕ → Value) (root : ℕ) (clauses : List (List ℤ)) : Type 0 where
  pub each : (clause : List ℤ) → Contains clauses clause → IsWholeClause j certain root clause
  pub all : (clause : List ℤ) → IsWholeClause j certain root clause → Contains clauses clause
  pub once : AllPairs (λ a b. a ≢ b) clauses

-- The unit clauses of listed places.
abbrev pub unit_clause : Job → (ℕ → Value) → ℕ → ℕ → List ℤ
unit_clause j certain root place = turn_literal j certain root place (decided (certain place) false) ∷ []

abbrev pub unit_clauses : Job → (ℕ → Value) → ℕ → List ℕ → List (List ℤ)
unit_clauses j certain root listed = map (unit_clause j certain root) listed

-- The model of a choice: the bits of the variables' places.
abbrev pub turn_model_of : Job → (ℕ → Value) → ℕ → (ℕ → Bool) → ℕ → Bool
turn_model_of j certain root bits n = bits (slice_index_or (turn_variables j certain root) n 0)

-- The choice of a model: a place has the bit of its root's variable, or the other one where the way to it inverts.
abbrev pub turn_choice_of : Job → (ℕ → Value) → ℕ → (ℕ → Bool) → ℕ → Bool
turn_choice_of j certain root model k =
    flipped (turn_root j certain root k).inverted (model (turn_variable_of j certain root k))
