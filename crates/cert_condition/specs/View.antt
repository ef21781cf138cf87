-- What is seen of a condition under way, and when it is that of a place of a wave.
use Rattle.std.specs.Prelude.{◌≡◌, ℕ, ◌+◌, ◌<◌, Bool, false, List, [], ◌∷◌, ◌++◌, if◌then◌else◌, length, map, nat_lt}
use Rattle.std.specs.Prelude.{slice_index_or, ℤ}
use Rattle.design_circuit.specs.declared.place.Place.{Place}
use Rattle.design_circuit.specs.Fits.{place_at}
use Rattle.design_circuit.specs.Waveform.{certain}
use Rattle.design_circuit.specs.World.{decided}
use Rattle.sat_proof.specs.declared.clause.Cnf.{Cnf}
use Rattle.decide_cone.specs.Boundary.{certain_boundary_in}
use Rattle.decide_cone.specs.Known.{IsGrown}
use Rattle.wave_proved.specs.Contents.{Contents, IsWave, job}
use Rattle.cert_condition.specs.Condition.{IsCondition}
use Rattle.cert_condition.specs.Laws.{HasCertainBit}
use Rattle.cert_condition.specs.TurnQuery.{AreWholeClauses, IsTurnQuery, turn_denial, turn_variables, unit_clause}
use Rattle.cert_condition.specs.TurnQuery.{unit_clauses}
use Rattle.cert_condition.specs.Turns.{AreTurnsOf, IsTurn, due_by, kept_by, listed_by, next_listed}
use Rattle.cert_condition.specs.declared.next.NextQuery.{NextQuery}
use Rattle.law_model.specs.declared.turn.Turn.{Turn}
use Rattle.law_model.specs.declared.turn.Turn.TheVariants.{Dropped, Needed, Tried}

-- The place, its certain boundary, the list, how many of its first places had their turn and how many of the others are
-- due, the turns, how long a fresh log is, and the query of the next turn.
pub record ConditionView : Type 0 where
  pub place : Place
  pub boundary : List Place
  pub listed : List Place
  pub kept : ℕ
  pub due : ℕ
  pub turns : List Turn
  pub limit : ℕ
  pub next : NextQuery

-- These parts go together, whichever place it is of.
pub record HoldsTogether (listed : List Place) (kept due : ℕ) (next : NextQuery) : Type 0 where
  pub all : kept + due ≡ length listed
  pub long : 0 < due → length next.query.clauses ≡ next.cone + length listed

-- Where turns are due, the boundary has one place for each turn, made or due.
abbrev pub HoldsTurns : List Place → List Turn → ℕ → Type 0
HoldsTurns boundary turns due = 0 < due → length turns + due ≡ length boundary

-- The value of a certain place, and what turns leave of its boundary.
abbrev pub settled_bit : Contents → ℕ → Bool
settled_bit c root = decided (certain c.written root) false

abbrev pub kept_in : Contents → ℕ → List Turn → List ℕ
kept_in c root turns = kept_by (job c) (certain c.written) root turns

abbrev pub due_in : Contents → ℕ → List Turn → List ℕ
due_in c root turns = due_by (job c) (certain c.written) root turns

abbrev pub current_list : Contents → ℕ → List Turn → List ℕ
current_list c root turns = listed_by (job c) (certain c.written) root turns

abbrev pub next_in : Contents → ℕ → List Turn → List ℕ
next_in c root turns = next_listed (job c) (certain c.written) root turns

abbrev pub IsTurnQueryIn : Contents → ℕ → List ℕ → Cnf → Type 0
IsTurnQueryIn c root listed query = IsTurnQuery (job c) (certain c.written) root (settled_bit c root) listed query

abbrev pub IsTurnIn : Contents → ℕ → List ℕ → Turn → Type 0
IsTurnIn c root listed turn =
    IsTurn (job c) (certain c.written) root (settled_bit c root) c.limits.conflicts listed turn

-- The query that is kept about about a list, and the unit clause of a place is away: the clauses of the cone come
-- first.
pub record IsAbout (c : Contents) (root : ℕ) (next : NextQuery) (listed : List ℕ) (place : ℕ) : Type 0 where
  pub whole : List (List ℤ)
  pub are_whole : AreWholeClauses (job c) (certain c.written) root whole
  pub cone : next.cone ≡ length whole
  pub vars : next.query.vars ≡ length (turn_variables (job c) (certain c.written) root)
  pub clauses : next.query.clauses
      ≡ (whole ++ unit_clauses (job c) (certain c.written) root listed)
      ++ turn_denial (job c) (certain c.written) root (settled_bit c root) ∷ []
  pub away : next.away ≡ unit_clause (job c) (certain c.written) root place

-- It is the condition, under way, of a certain place of a wave. The query that is kept is that of the list without the
-- place whose turn is next.
pub record IsConditionOf (c : Contents) (root : ℕ) (view : ConditionView) : Type 0 where
  pub wave : IsWave c
  pub has : HasCertainBit (job c) c.written root (settled_bit c root)
  pub place : view.place ≡ place_at (job c) root
  pub boundary : view.boundary ≡ map (place_at (job c)) (certain_boundary_in c root)
  pub limit : view.limit ≡ c.limits.conflicts
  pub turns : AreTurnsOf (job c) (certain c.written) root (settled_bit c root) c.limits.conflicts view.turns
  pub kept : view.kept ≡ length (kept_in c root view.turns)
  pub due : view.due ≡ length (due_in c root view.turns)
  pub listed : view.listed ≡ map (place_at (job c)) (current_list c root view.turns)
  pub about : (place : ℕ) (rest : List ℕ) → due_in c root view.turns ≡ place ∷ rest
      → IsAbout c root view.next (kept_in c root view.turns ++ rest) place

-- A place is that of the next turn: the first of the boundary behind those that had theirs.
pub record IsNextPlace (view : ConditionView) (place : Place) : Type 0 where
  pub within : length view.turns < length view.boundary
  pub stands : slice_index_or view.boundary (length view.turns) place ≡ place

-- A formula is the query of the next turn.
abbrev pub IsNextQuery : ConditionView → Cnf → Type 0
IsNextQuery view query = (c : Contents) (root : ℕ) → IsConditionOf c root view
    → IsTurnQueryIn c root (next_in c root view.turns) query

-- Something is found of that query.
abbrev pub FindsNext : ConditionView → (Cnf → Type 0) → Type 0
FindsNext view Finding = (c : Contents) (root : ℕ) → IsConditionOf c root view
    → (query : Cnf) × IsTurnQueryIn c root (next_in c root view.turns) query × Finding query

-- A turn is the next one.
abbrev pub IsNextTurn : ConditionView → Turn → Type 0
IsNextTurn view turn = (c : Contents) (root : ℕ) → IsConditionOf c root view
    → IsTurnIn c root (next_in c root view.turns) turn

-- It is made: one fewer is due, and it is the condition of the same places.
pub record IsTurned (old : ConditionView) (turn : Turn) (new : ConditionView) : Type 0 where
  pub turns : new.turns ≡ old.turns ++ turn ∷ []
  pub due : new.due + 1 ≡ old.due
  pub limit : new.limit ≡ old.limit
  pub place : new.place ≡ old.place
  pub boundary : new.boundary ≡ old.boundary
  pub is : (c : Contents) (root : ℕ) → IsConditionOf c root old → IsConditionOf c root new

-- A turn after which its place stays.
abbrev pub IsKeeping : Turn → Type 0
IsKeeping (Dropped log) = ⊥
IsKeeping (Needed model) = Unit {0}
IsKeeping (Tried log) = Unit {0}

-- One turn is made, whichever it is.
abbrev pub IsStep : ConditionView → ConditionView → Type 0
IsStep old new = (turn : Turn) × IsTurned old turn new

-- All turns are made, and it is the condition of the same places.
pub record IsFinishedFrom (old new : ConditionView) : Type 0 where
  pub none_due : new.due ≡ 0
  pub limit : new.limit ≡ old.limit
  pub place : new.place ≡ old.place
  pub boundary : new.boundary ≡ old.boundary
  pub is : (c : Contents) (root : ℕ) → IsConditionOf c root old → IsConditionOf c root new

-- Some turns are made.
pub record IsUnderWay (old now : ConditionView) : Type 0 where
  pub limit : now.limit ≡ old.limit
  pub place : now.place ≡ old.place
  pub boundary : now.boundary ≡ old.boundary
  pub is : (c : Contents) (root : ℕ) → IsConditionOf c root old → IsConditionOf c root now

-- It begins with all certain boundary places of a place, and the query of the list without the first.
pub record IsBeginning (c : Contents) (root : ℕ) (place : Place) (listed : List Place) (next : NextQuery)
    (limit : ℕ) : Type 0 where
  pub wave : IsWave c
  pub has : HasCertainBit (job c) c.written root (settled_bit c root)
  pub place_is : place ≡ place_at (job c) root
  pub limit_is : limit ≡ c.limits.conflicts
  pub listed_are : listed ≡ map (place_at (job c)) (certain_boundary_in c root)
  pub about : (first : ℕ) (rest : List ℕ) → due_in c root [] ≡ first ∷ rest → IsAbout c root next rest first

abbrev pub IsBegun : Place → List Place → NextQuery → ℕ → ConditionView → Type 0
IsBegun place listed next limit view = (c : Contents) (root : ℕ)
    → IsBeginning c root place listed next limit → IsConditionOf c root view

-- Most places that have turns.
abbrev pub first_count : ℕ → ℕ
first_count count = if nat_lt 64 count then count else 0

abbrev pub due_count : ℕ → ℕ
due_count count = if nat_lt 64 count then 0 else count

-- A condition stays that of its place, whatever is written next.
abbrev pub StayLaw : Type 0
StayLaw = (c d : Contents) (root : ℕ) (view : ConditionView) → IsGrown c d → d.limits ≡ c.limits → IsWave d
    → IsConditionOf c root view → IsConditionOf d root view

-- The list of a condition, under way or finished, is a condition of its place.
abbrev pub HeldLaw : Type 0
HeldLaw = (c : Contents) (root : ℕ) (view : ConditionView) → IsConditionOf c root view
    → IsCondition (job c) (certain c.written) root (settled_bit c root) (current_list c root view.turns)
