-- The nodes of a turn query: the places of a cone and of its boundary, by their positions in place order.
use Rattle.std.specs.Prelude.{◌≡◌, ℕ, ◌<◌, ◌≤◌, ◌^◌, ◌⊎◌, Bool, true, false, List, [], ◌∷◌, length, map, slice_index}
use Rattle.std.specs.Prelude.{slice_index_or, take}
use Rattle.std.specs.List.{AllByRecursion}
use Rattle.design_cell.specs.declared.value.Value.{Value}
use Rattle.design_cell.specs.declared.value.Value.TheVariants.{X}
use Rattle.design_circuit.specs.Fits.{place_at}
use Rattle.design_circuit.specs.Job.{Job}
use Rattle.design_circuit.specs.Waveform.{certain}
use Rattle.law_model.specs.Assignment.{argument_places}
use Rattle.law_model.specs.Class.{class_of}
use Rattle.law_model.specs.Cone.{in_cone, is_carried}
use Rattle.law_model.specs.Laws.{InReach}
use Rattle.law_model.specs.Mask.{mask_of}
use Rattle.law_model.specs.Node.{HasCarrier, NodeBody, carried, ruled}
use Rattle.wave_proved.specs.Contents.{Contents, IsWave, arguments_in, class_in, job, rule_in}
use Rattle.decide_nodes.specs.declared.node.Node.{Node}
use Rattle.decide_nodes.specs.Nodes.{AreNodes, StandsAt, body_at, body_of, node_at, place_of_node}
use Rattle.decide_cone.specs.Boundary.{near_in}
use Rattle.decide_nodes.specs.Traced.{cone_in}
use Rattle.decide_nodes.specs.declared.node.NodeBody.{NodeBody as Body}
use Rattle.cert_condition.specs.TurnQuery.{whole_table}

-- A place of the cone with a rule has all its argument places, and its rule's values on any bits for them.
pub record IsWholeRule (j : Job) (certain : ℕ → Value) (root : ℕ) (places : List ℕ) (place : ℕ) (arguments : List ℕ)
    (values : List Value) : Type 0 where
  pub inside : in_cone j certain root place ≡ true
  pub free : is_carried (class_of j certain place) ≡ false
  pub within : AllByRecursion (λ argument. argument < length places) arguments
  pub are_arguments : map (slice_index places) arguments ≡ argument_places j certain place
  pub are_values : (bits : ℕ → Bool)
      → slice_index_or values (mask_of (argument_places j certain place) bits) X ≡ whole_table j certain place bits

-- A boundary place has no arguments, and x.
pub record IsOpen (j : Job) (certain : ℕ → Value) (root place : ℕ) (arguments : List ℕ)
    (values : List Value) : Type 0 where
  pub outside : in_cone j certain root place ≡ false
  pub none : arguments ≡ []
  pub is_x : values ≡ X ∷ []

-- A carried place of the cone.
pub record IsCarriedIn (j : Job) (certain : ℕ → Value) (root : ℕ) (places : List ℕ) (place node : ℕ)
    (inverted : Bool) : Type 0 where
  pub inside : in_cone j certain root place ≡ true
  pub deeper : in_cone j certain root (slice_index places node) ≡ true
  pub from : HasCarrier j certain places place node inverted

abbrev pub IsTurnBody : Job → (ℕ → Value) → ℕ → List ℕ → ℕ → NodeBody → Type 0
IsTurnBody j certain root places place (carried node inverted) = IsCarriedIn j certain root places place node inverted
IsTurnBody j certain root places place (ruled arguments values) =
    IsWholeRule j certain root places place arguments values ⊎ IsOpen j certain root place arguments values

-- Nodes are these places of a place of a wave that is written, or of the next one, and isn't carried.
pub record AreTurnNodes (c : Contents) (root : ℕ) (nodes : List Node) : Type 0 where
  pub wave : IsWave c
  pub are_nodes : AreNodes nodes
  pub reach : InReach (job c) c.written root
  pub free : is_carried (class_in c root) ≡ false
  pub places : map place_of_node nodes ≡ map (place_at (job c)) (near_in c root)
  pub bodies : (position : ℕ) → position < length nodes
      → IsTurnBody (job c) (certain c.written) root (near_in c root) (slice_index (near_in c root) position)
      (body_at nodes position)

-- Numbers are those of the places near a place of a wave, at most 2^27, and of its cone alone.
pub record AreAround (c : Contents) (root : ℕ) (places inside : List ℕ) : Type 0 where
  pub wave : IsWave c
  pub reach : InReach (job c) c.written root
  pub free : is_carried (class_in c root) ≡ false
  pub places_are : places ≡ near_in c root
  pub few : length places ≤ 2 ^ 27
  pub inside_are : inside ≡ cone_in c root

abbrev pub IsAround : Contents → List ℕ → List ℕ → Type 0
IsAround c places inside = (root : ℕ) × AreAround c root places inside

-- A body is that of a place near it, and reads places before it.
pub record IsBodyFor (c : Contents) (root : ℕ) (places : List ℕ) (place : ℕ) (body : Body) : Type 0 where
  pub turn : IsTurnBody (job c) (certain c.written) root places place (body_of body)
  pub stands : (position : ℕ) → position < length places → slice_index places position ≡ place
      → StandsAt position body

abbrev pub IsBodyAround : Contents → List ℕ → List ℕ → ℕ → Body → Type 0
IsBodyAround c places inside place body =
    (root : ℕ) → AreAround c root places inside → IsBodyFor c root places place body

-- Nodes are those of its turn query.
abbrev pub AreNodesAround : Contents → List ℕ → List ℕ → List Node → Type 0
AreNodesAround c places inside nodes =
    (root : ℕ) → AreAround c root places inside → AreTurnNodes c root nodes

-- They are the first of them.
pub record AreFirstNodes (c : Contents) (places inside : List ℕ) (count : ℕ) (nodes : List Node) : Type 0 where
  pub long : length nodes ≡ count
  pub places_are : map place_of_node nodes ≡ map (place_at (job c)) (take count places)
  pub bodies : (position : ℕ) → position < count
      → IsBodyAround c places inside (slice_index places position) (node_at nodes position).body

-- Values are those of the rule of the place of a number, for all bits of its argument places.
pub record AreWholeValues (c : Contents) (number : ℕ) (values : List Value) : Type 0 where
  pub long : length values ≡ 2 ^ length (arguments_in c number)
  pub are : (bits : ℕ → Bool)
      → slice_index_or values (mask_of (arguments_in c number) bits) X
      ≡ whole_table (job c) (certain c.written) number bits

-- The same by numbers, for the first ones.
pub record AreFirstValues (c : Contents) (place count : ℕ) (values : List Value) : Type 0 where
  pub long : length values ≡ count
  pub are : (number : ℕ) → number < count → slice_index_or values number X ≡ rule_in c place number
