-- The query of a place: the clauses whose models are the consistent valuations of its cone that give it another value
-- than the empty filling does.
use Rattle.std.specs.Prelude.{◌≡◌, ◌≢◌, ℕ, ℤ, pos, negsuc, suc, ◌+◌, ◌&&◌, ◌⊎◌, Bool, true, false, List, [], ◌∷◌}
use Rattle.std.specs.Prelude.{length, map, nat_abs, not, slice_index, Contains}
use Rattle.std.specs.List.{AllPairs}
use Rattle.std.specs.List.Sorted.{IsStrictlyIncreasing}
use Rattle.design_cell.specs.declared.value.Value.{Value}
use Rattle.design_cell.specs.Value.{bit_value}
use Rattle.design_circuit.specs.Job.{Job}
use Rattle.design_circuit.specs.Order.{position_of}
use Rattle.sat_proof.specs.declared.clause.Cnf.{Cnf}
use Rattle.law_model.specs.Assignment.{with_bit}
use Rattle.law_model.specs.Places.{among, places_where}
use Rattle.law_model.specs.Class.{class_of, flipped}
use Rattle.law_model.specs.Cone.{is_carried, in_cone, essentials, table, denied_value}
use Rattle.law_model.specs.Root.{root_of}

-- The places of a cone that aren't carried, in place order. Variable n + 1 stands for the place at position n.
abbrev pub is_variable : Job → (ℕ → Value) → ℕ → ℕ → Bool
is_variable j certain root place = in_cone j certain root place && not (is_carried (class_of j certain place))

unfoldable pub variables : Job → (ℕ → Value) → ℕ → List ℕ
variables j certain root = places_where (is_variable j certain root) (root + 1)

-- The literal that says that variable n + 1 has a bit.
abbrev pub signed : ℕ → Bool → ℤ
signed n true = pos (suc n)
signed n false = negsuc n

-- Which variable stands for the root of a place, from 0.
abbrev pub variable_of : Job → (ℕ → Value) → ℕ → ℕ → ℕ
variable_of j certain root place = position_of (variables j certain root) (root_of j certain place).place

-- The literal that says that a place has a bit: that of its root, whose bit is the other one where the way to it
-- inverts.
unfoldable pub literal : Job → (ℕ → Value) → ℕ → ℕ → Bool → ℤ
literal j certain root place bit =
    signed (variable_of j certain root place) (flipped (root_of j certain place).inverted bit)

-- A choice takes bits at some places. It forces a bit where a table gives that bit for all bits that agree with the
-- choice.
abbrev pub Forces : ((ℕ → Bool) → Value) → (ℕ → Bool) → (ℕ → Bool) → Bool → Type 0
Forces table chosen bits bit = (others : ℕ → Bool)
    → ((place : ℕ) → chosen place ≡ true → others place ≡ bits place) → table others ≡ bit_value bit

-- A minimal choice that forces a bit: bits for some arguments, none of which can be left out.
pub record IsChoice (arguments : List ℕ) (table : (ℕ → Bool) → Value) (chosen bits : ℕ → Bool)
    (bit : Bool) : Type 0 where
  pub among_arguments : (place : ℕ) → chosen place ≡ true → among arguments place ≡ true
  pub forces : Forces table chosen bits bit
  pub minimal : (place : ℕ) → chosen place ≡ true → Forces table (with_bit place false chosen) bits bit → ⊥

-- The clause 'not that choice, or that bit'. Its literals ascend by variable, so doubled ones are merged, and no
-- tautology is a clause.
pub record IsClause (says : ℕ → Bool → ℤ) (place : ℕ) (chosen bits : ℕ → Bool) (bit : Bool)
    (clause : List ℤ) : Type 0 where
  pub ascends : IsStrictlyIncreasing (map nat_abs clause)
  pub denies : (argument : ℕ) → chosen argument ≡ true → Contains clause (says argument (not (bits argument)))
  pub gives : Contains clause (says place bit)
  pub no_other : (l : ℤ) → Contains clause l
      → (l ≡ says place bit) ⊎ ((argument : ℕ) × (chosen argument ≡ true) × (l ≡ says argument (not (bits argument))))

-- A clause of the cone: that of a minimal choice of bits for essential arguments of a place that isn't carried.
pub record IsConeClause (j : Job) (certain : ℕ → Value) (root : ℕ) (clause : List ℤ) : Type 0 where
  pub place : ℕ
  pub bit : Bool
  pub chosen : ℕ → Bool
  pub bits : ℕ → Bool
  pub inside : in_cone j certain root place ≡ true
  pub free : is_carried (class_of j certain place) ≡ false
  pub choice : IsChoice (essentials j certain place) (table j certain place) chosen bits bit
  pub is_clause : IsClause (literal j certain root) place chosen bits bit clause

-- The unit clause that denies the value that the root has under the empty filling.
abbrev pub denial : Job → (ℕ → Value) → ℕ → List ℤ
denial j certain root = literal j certain root root (not (denied_value j certain root)) ∷ []

abbrev pub IsQueryClause : Job → (ℕ → Value) → ℕ → List ℤ → Type 0
IsQueryClause j certain root clause = IsConeClause j certain root clause ⊎ (clause ≡ denial j certain root)

-- The query of a place is a formula over its variables of exactly these clauses, each of which stands once.
pub record IsQuery (j : Job) (certain : ℕ → Value) (root : ℕ) (query : Cnf) : Type 0 where
  pub vars : query.vars ≡ length (variables j certain root)
  pub each : (clause : List ℤ) → Contains query.clauses clause → IsQueryClause j certain root clause
  pub all : (clause : List ℤ) → IsQueryClause j certain root clause → Contains query.clauses clause
  pub once : AllPairs (λ a b. a ≢ b) query.clauses

-- The model of a valuation: the bits of the variables' places.
abbrev pub model_of : Job → (ℕ → Value) → ℕ → (ℕ → Bool) → ℕ → Bool
model_of j certain root valuation n = valuation (slice_index (variables j certain root) n)

-- The valuation of a model: a place has the bit of its root's variable, or the other one where the way to it inverts.
abbrev pub valuation_of : Job → (ℕ → Value) → ℕ → (ℕ → Bool) → ℕ → Bool
valuation_of j certain root model place =
    flipped (root_of j certain place).inverted (model (variable_of j certain root place))
