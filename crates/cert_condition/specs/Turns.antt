-- Turns: each certain boundary place is left out of the list in its turn, and stays out where the rest is a condition.
use Rattle.std.specs.Prelude.{◌≡◌, ℕ, ℤ, Bool, List, [], ◌∷◌, ◌++◌, drop, length, nat_lt, if◌then◌else◌}
use Rattle.std.specs.List.{All}
use Rattle.design_cell.specs.declared.value.Value.{Value}
use Rattle.design_circuit.specs.Job.{Job}
use Rattle.sat_proof.specs.Assignment.{HasNoZero, IsModel}
use Rattle.sat_proof.specs.Log.{AreFresh, Fit, Refutes}
use Rattle.sat_proof.specs.declared.clause.Cnf.{Cnf}
use Rattle.decide_cone.specs.Boundary.{certain_boundary}
use Rattle.cert_condition.specs.TurnQuery.{IsTurnQuery}
use Rattle.law_model.specs.declared.turn.Turn.{Turn}
use Rattle.law_model.specs.declared.turn.Turn.TheVariants.{Dropped, Needed, Tried}

-- The places that had their turn and stay in the list, after the turn of one more.
abbrev pub kept_with : List ℕ → ℕ → Turn → List ℕ
kept_with kept place (Dropped log) = kept
kept_with kept place (Needed model) = kept ++ place ∷ []
kept_with kept place (Tried log) = kept ++ place ∷ []

-- A log names variables of a query alone, and the literal 0 nowhere.
pub record IsLogOf (query : Cnf) (log : List (List ℤ)) : Type 0 where
  pub fit : Fit query.vars log
  pub no_zero : All HasNoZero log

-- What a turn says of a query: the log refutes it, the model makes every clause true, or the log is fresh and as long
-- as the limit.
abbrev pub TurnFinds : Cnf → ℕ → Turn → Type 0
TurnFinds query limit (Dropped log) = IsLogOf query log × Refutes query.clauses log
TurnFinds query limit (Needed model) = IsModel query.vars query.clauses model
TurnFinds query limit (Tried log) = IsLogOf query log × AreFresh query.clauses log × (length log ≡ limit)

-- It says so of the turn query of a list.
pub record IsTurn (j : Job) (certain : ℕ → Value) (root : ℕ) (value : Bool) (limit : ℕ) (listed : List ℕ)
    (turn : Turn) : Type 0 where
  pub query : Cnf
  pub is_query : IsTurnQuery j certain root value listed query
  pub finds : TurnFinds query limit turn

-- Turns one after the other: some places had theirs and are kept, others are due. The turn of the first of these is
-- about the list without it.
abbrev pub AreTurns : Job → (ℕ → Value) → ℕ → Bool → ℕ → List ℕ → List ℕ → List Turn → Type 0
AreTurns j certain root value limit kept due [] = Unit {0}
AreTurns j certain root value limit kept [] (turn ∷ turns) = ⊥
AreTurns j certain root value limit kept (place ∷ due) (turn ∷ turns) =
    IsTurn j certain root value limit (kept ++ due) turn
    × AreTurns j certain root value limit (kept_with kept place turn) due turns

-- The places that are kept after them, and those that are still due.
abbrev pub kept_after : List ℕ → List ℕ → List Turn → List ℕ
kept_after kept due [] = kept
kept_after kept [] (turn ∷ turns) = kept
kept_after kept (place ∷ due) (turn ∷ turns) = kept_after (kept_with kept place turn) due turns

abbrev pub due_after : List ℕ → List Turn → List ℕ
due_after due turns = drop (length turns) due

-- At most 64 places have turns. Where there are more, all are kept and none is due.
abbrev pub first_kept : List ℕ → List ℕ
first_kept places = if nat_lt 64 (length places) then places else []

abbrev pub first_due : List ℕ → List ℕ
first_due places = if nat_lt 64 (length places) then [] else places

-- The first turns of a place, over its certain boundary places in place order.
abbrev pub AreTurnsOf : Job → (ℕ → Value) → ℕ → Bool → ℕ → List Turn → Type 0
AreTurnsOf j certain root value limit turns =
    AreTurns j certain root value limit (first_kept (certain_boundary j certain root))
    (first_due (certain_boundary j certain root)) turns

abbrev pub kept_by : Job → (ℕ → Value) → ℕ → List Turn → List ℕ
kept_by j certain root turns =
    kept_after (first_kept (certain_boundary j certain root)) (first_due (certain_boundary j certain root)) turns

abbrev pub due_by : Job → (ℕ → Value) → ℕ → List Turn → List ℕ
due_by j certain root turns = due_after (first_due (certain_boundary j certain root)) turns

-- The list that they leave, and that without the next place.
abbrev pub listed_by : Job → (ℕ → Value) → ℕ → List Turn → List ℕ
listed_by j certain root turns = kept_by j certain root turns ++ due_by j certain root turns

abbrev pub next_listed : Job → (ℕ → Value) → ℕ → List Turn → List ℕ
next_listed j certain root turns = kept_by j certain root turns ++ drop 1 (due_by j certain root turns)
