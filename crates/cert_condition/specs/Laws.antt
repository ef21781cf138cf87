-- The laws of conditions, for every job that fits, whatever stands as certain.
use Rattle.std.specs.Prelude.{◌≡◌, ℕ, ℤ, ◌<◌, ◌↔◌, ◌||◌, Bool, true, false, not, List, length}
use Rattle.design_cell.specs.declared.value.Value.{Value}
use Rattle.design_circuit.specs.Job.{Job, places_of}
use Rattle.design_circuit.specs.Fits.{Fits}
use Rattle.design_circuit.specs.declared.waveform.Written.{Written}
use Rattle.design_circuit.specs.Waveform.{certain}
use Rattle.design_cell.specs.Value.{bit_value}
use Rattle.law_model.specs.Class.{class_of}
use Rattle.law_model.specs.Cone.{in_cone, is_carried}
use Rattle.law_model.specs.Laws.{InSound}
use Rattle.decide_cone.specs.Boundary.{certain_boundary, is_boundary}
use Rattle.sat_proof.specs.declared.clause.Cnf.{Cnf}
use Rattle.sat_proof.specs.Assignment.{HasNoModel, IsMet}
use Rattle.cert_condition.specs.Condition.{AreOfBoundary, IsCondition, Obeys}
use Rattle.cert_condition.specs.Turns.{AreTurnsOf, listed_by}
use Rattle.law_model.specs.declared.turn.Turn.{Turn}
use Rattle.cert_condition.specs.TurnQuery.{IsTurnClause, IsTurnQuery, turn_choice_of, turn_model_of, turn_variables}

-- A choice that obeys a list and gives the place the other value is a model of the list's turn query, from which it
-- comes back at the places of the cone and its boundary,
pub record IsTurnModel (j : Job) (certain : ℕ → Value) (root : ℕ) (value : Bool) (listed : List ℕ)
    (bits : ℕ → Bool) : Type 0 where
  pub met : (clause : List ℤ) → IsTurnClause j certain root value listed clause
      → IsMet (turn_model_of j certain root bits) clause
  pub back : (k : ℕ) → in_cone j certain root k || is_boundary j certain root k ≡ true
      → turn_choice_of j certain root (turn_model_of j certain root bits) k ≡ bits k

abbrev pub ChoicesAreModels : Type 0
ChoicesAreModels = (j : Job) (certain : ℕ → Value) (root : ℕ) (value : Bool) (listed : List ℕ) (bits : ℕ → Bool)
    → Fits j → root < places_of j → AreOfBoundary j certain root listed
    → Obeys j certain root listed bits → bits root ≡ not value → IsTurnModel j certain root value listed bits

-- and a model of the turn query is such a choice, from which it comes back.
pub record IsTurnChoice (j : Job) (certain : ℕ → Value) (root : ℕ) (value : Bool) (listed : List ℕ)
    (model : ℕ → Bool) : Type 0 where
  pub obeys : Obeys j certain root listed (turn_choice_of j certain root model)
  pub other : turn_choice_of j certain root model root ≡ not value
  pub back : (n : ℕ) → n < length (turn_variables j certain root)
      → turn_model_of j certain root (turn_choice_of j certain root model) n ≡ model n

abbrev pub ModelsAreChoices : Type 0
ModelsAreChoices = (j : Job) (certain : ℕ → Value) (root : ℕ) (value : Bool) (listed : List ℕ) (model : ℕ → Bool)
    → Fits j → root < places_of j → AreOfBoundary j certain root listed
    → ((clause : List ℤ) → IsTurnClause j certain root value listed clause → IsMet model clause)
    → IsTurnChoice j certain root value listed model

-- So a list of certain boundary places is a condition exactly where its turn query has no model.
abbrev pub TurnLaw : Type 0
TurnLaw = (j : Job) (certain : ℕ → Value) (root : ℕ) (value : Bool) (listed : List ℕ) (query : Cnf)
    → Fits j → root < places_of j → AreOfBoundary j certain root listed → IsTurnQuery j certain root value listed query
    → HasNoModel query.vars query.clauses ↔ IsCondition j certain root value listed

-- A certain place of a sound waveform that isn't carried, and its value.
pub record HasCertainBit (j : Job) (waveform : List Written) (root : ℕ) (value : Bool) : Type 0 where
  pub written : root < length waveform
  pub within : root < places_of j
  pub free : is_carried (class_of j (certain waveform) root) ≡ false
  pub has : certain waveform root ≡ bit_value value

-- All its certain boundary places are a condition,
abbrev pub WholeListLaw : Type 0
WholeListLaw = InSound (λ j waveform. (root : ℕ) (value : Bool) → HasCertainBit j waveform root value
    → IsCondition j (certain waveform) root value (certain_boundary j (certain waveform) root))

-- and so is the list that its first turns leave, however many these are.
abbrev pub TurnsLaw : Type 0
TurnsLaw = InSound (λ j waveform. (root limit : ℕ) (value : Bool) (turns : List Turn)
    → HasCertainBit j waveform root value
    → AreTurnsOf j (certain waveform) root value limit turns
    → IsCondition j (certain waveform) root value (listed_by j (certain waveform) root turns))
