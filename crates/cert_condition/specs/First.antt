-- The query with which a condition begins.
use Rattle.std.specs.Prelude.{◌≡◌, ℕ, ℤ, ◌<◌, ◌≤◌, ◌^◌, true, List, [], ◌∷◌, ◌++◌, drop, length, map, pos}
use Rattle.std.specs.Prelude.{slice_index_or}
use Rattle.std.specs.List.{All}
use Rattle.std.specs.List.Sorted.{IsStrictlyIncreasing}
use Rattle.design_circuit.specs.Order.{position_of}
use Rattle.law_model.specs.Places.{among}
use Rattle.wave_proved.specs.Contents.{Contents, job}
use Rattle.decide_cone.specs.Boundary.{certain_boundary_in, near_in}
use Rattle.decide_nodes.specs.declared.node.Node.{Node}
use Rattle.decide_nodes.specs.Traced.{IsWholeCone}
use Rattle.decide_cnf.specs.Literals.{IsLiteral, literal_at, says}
use Rattle.cert_condition.specs.Laws.{HasCertainBit}
use Rattle.cert_condition.specs.TurnNodes.{AreTurnNodes}
use Rattle.cert_condition.specs.View.{ConditionView, IsAbout, IsConditionOf, due_in, settled_bit}
use Rattle.cert_condition.specs.declared.next.NextQuery.{NextQuery}

-- Nodes are the whole cone of a certain place of a wave.
pub record IsConeOfCertain (c : Contents) (root : ℕ) (nodes : List Node) : Type 0 where
  pub whole : IsWholeCone c root nodes
  pub has : HasCertainBit (job c) c.written root (settled_bit c root)

abbrev pub IsCertainCone : Contents → List Node → Type 0
IsCertainCone c nodes = (root : ℕ) × IsConeOfCertain c root nodes

-- A condition is that of the place whose cone they are.
abbrev pub IsConditionOfCone : Contents → List Node → ConditionView → Type 0
IsConditionOfCone c nodes view = (root : ℕ) → IsConeOfCertain c root nodes → IsConditionOf c root view

-- A query is that of its first turn.
abbrev pub IsFirstQuery : Contents → List Node → NextQuery → Type 0
IsFirstQuery c nodes next = (root : ℕ) → IsConeOfCertain c root nodes → (place : ℕ) (rest : List ℕ)
    → certain_boundary_in c root ≡ place ∷ rest → IsAbout c root next rest place

-- A query is that of its first turn, if one is due.
abbrev pub IsNextFirst : Contents → List Node → NextQuery → Type 0
IsNextFirst c nodes next = (root : ℕ) → IsConeOfCertain c root nodes → (place : ℕ) (rest : List ℕ)
    → due_in c root [] ≡ place ∷ rest → IsAbout c root next rest place

-- Nodes are those of its turn query, with the numbers of their places, and of the certain boundary.
pub record HasTurnNodes (c : Contents) (root : ℕ) (places : List ℕ) (nodes : List Node)
    (numbers : List ℕ) : Type 0 where
  pub are : AreTurnNodes c root nodes
  pub has : HasCertainBit (job c) c.written root (settled_bit c root)
  pub places_are : places ≡ near_in c root
  pub numbers_are : numbers ≡ certain_boundary_in c root

abbrev pub HaveTurnNodes : Contents → List ℕ → List Node → List ℕ → Type 0
HaveTurnNodes c places nodes numbers = (root : ℕ) × HasTurnNodes c root places nodes numbers

abbrev pub IsQueryOver : Contents → List ℕ → List Node → List ℕ → NextQuery → Type 0
IsQueryOver c places nodes numbers next = (root : ℕ) → HasTurnNodes c root places nodes numbers
    → (place : ℕ) (rest : List ℕ) → numbers ≡ place ∷ rest → IsAbout c root next rest place

-- Literals stand for places that ascend.
pub record StandForPlaces (places : List ℕ) (literals : List ℤ) : Type 0 where
  pub rising : IsStrictlyIncreasing places
  pub few : length places ≤ 2 ^ 27
  pub long : length literals ≡ length places
  pub fit : All (IsLiteral (2 ^ 27)) literals

-- One says that its place has its value.
abbrev pub unit_says : Contents → List ℕ → List ℤ → ℕ → ℤ
unit_says c places literals k = says (literal_at literals (position_of places k)) (settled_bit c k)

-- A place is among them, and written.
abbrev pub IsWrittenAmong : Contents → List ℕ → ℕ → Type 0
IsWrittenAmong c places k = (among places k ≡ true) × (k < length c.written)

-- Clauses, unit clauses but the first, and the denial, together as a query.
pub record IsAssembled (vars : ℕ) (clauses : List (List ℤ)) (units : List ℤ) (denial : ℤ)
    (next : NextQuery) : Type 0 where
  pub vars_are : next.query.vars ≡ vars
  pub cone : next.cone ≡ length clauses
  pub made : next.query.clauses ≡ (clauses ++ map (λ l. l ∷ []) (drop 1 units)) ++ (denial ∷ []) ∷ []
  pub away : next.away ≡ slice_index_or units 0 (pos 0) ∷ []
