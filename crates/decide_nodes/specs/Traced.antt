-- When nodes are the cone of a place of a wave, and what their bits then are.
use Rattle.std.specs.Prelude.{◌≡◌, ℕ, ◌+◌, ◌<◌, ◌≤◌, ◌^◌, Bool, true, false, List, length, map, slice_index}
use Rattle.std.specs.Prelude.{slice_index_or}
use Rattle.std.specs.List.{AllByRecursion}
use Rattle.design_cell.specs.declared.value.Value.{Value}
use Rattle.design_cell.specs.declared.value.Value.TheVariants.{X}
use Rattle.design_circuit.specs.declared.place.Place.{Place}
use Rattle.design_circuit.specs.Filling.{IsFilling}
use Rattle.design_circuit.specs.Fits.{place_at}
use Rattle.design_circuit.specs.Job.{Job}
use Rattle.design_circuit.specs.Waveform.{certain}
use Rattle.law_model.specs.Class.{class_of, flipped}
use Rattle.law_model.specs.Cone.{cone, denied_value, essentials, in_cone, is_carried, sources, table}
use Rattle.law_model.specs.Mask.{mask_of}
use Rattle.law_model.specs.Places.{places_where}
use Rattle.law_model.specs.Query.{is_variable}
use Rattle.law_model.specs.Root.{Root, root_of}
use Rattle.law_model.specs.Laws.{InReach, world_over}
use Rattle.law_model.specs.Line.{IsEnumerated, IsOfSources}
use Rattle.law_model.specs.Node.{HasCarrier, IsBody, NodeBody, carried, ruled}
use Rattle.wave_proved.specs.Contents.{Contents, IsWave, class_in, job, next_number}
use Rattle.decide_nodes.specs.declared.node.Node.{Node}
use Rattle.decide_nodes.specs.Nodes.{AreNodes, body_at, by_sources, chosen, is_listed, nothing, number_bits}
use Rattle.decide_nodes.specs.Nodes.{place_of_node, root_bit, source_at, sources_of}

-- The places of the cone of a place of a wave, in place order, by their numbers.
abbrev pub cone_in : Contents → ℕ → List ℕ
cone_in c root = cone (job c) (certain c.written) root

-- Its sources.
abbrev pub sources_in : Contents → ℕ → List ℕ
sources_in c root = sources (job c) (certain c.written) root

-- The world of a filling over a wave.
abbrev pub world_in : Contents → List Place → ℕ → Bool
world_in c filling = world_over (job c) c.written filling

-- Nodes are the whole cone of a place of a wave that is written, or of the next one, and isn't carried: they are its
-- places, each with the body that its class and its rule say.
pub record IsWholeCone (c : Contents) (root : ℕ) (nodes : List Node) : Type 0 where
  pub wave : IsWave c
  pub are_nodes : AreNodes nodes
  pub reach : InReach (job c) c.written root
  pub free : is_carried (class_in c root) ≡ false
  pub places : map place_of_node nodes ≡ map (place_at (job c)) (cone_in c root)
  pub bodies : (position : ℕ) → position < length nodes
      → IsBody (job c) (certain c.written) (cone_in c root) (slice_index (cone_in c root) position)
      (body_at nodes position)

-- A root, or its complement.
abbrev pub turned_root : Bool → Root → Root
turned_root turned root = record { place = root.place; inverted = flipped turned root.inverted }

-- The arguments of a node are places with the roots of the essential arguments of its place, in their order, each as it
-- is or inverted. The value at number i is the rule's where the essential argument k has bit k of i, or its complement
-- where argument k is inverted.
pub record IsRuledOver (j : Job) (certain : ℕ → Value) (places : List ℕ) (place : ℕ) (arguments : List ℕ)
    (values : List Value) : Type 0 where
  pub free : is_carried (class_of j certain place) ≡ false
  pub within : AllByRecursion (λ argument. argument < length places) arguments
  pub turns : ℕ → Bool
  pub long : length arguments ≡ length (essentials j certain place)
  pub roots : (k : ℕ) → k < length arguments
      → root_of j certain (slice_index (essentials j certain place) k)
      ≡ turned_root (turns (slice_index (essentials j certain place) k))
      (root_of j certain (slice_index places (slice_index arguments k)))
  pub are_values : (bits : ℕ → Bool)
      → slice_index_or values (mask_of (essentials j certain place) bits) X
      ≡ table j certain place (λ k. flipped (turns k) (bits k))

abbrev pub IsBodyOver : Job → (ℕ → Value) → List ℕ → ℕ → NodeBody → Type 0
IsBodyOver j certain places place (carried node inverted) = HasCarrier j certain places place node inverted
IsBodyOver j certain places place (ruled arguments values) = IsRuledOver j certain places place arguments values

-- The places at which there is a node, of those up to a root.
abbrev pub kept_places : (ℕ → Bool) → ℕ → List ℕ
kept_places kept root = places_where kept (root + 1)

-- Nodes are a cone of a place of a wave that is written, or of the next one, and isn't carried: places of its cone, of
-- which only carried ones may be left out. So these read nodes at the roots of what they rest on.
pub record IsConeOf (c : Contents) (root : ℕ) (nodes : List Node) : Type 0 where
  pub wave : IsWave c
  pub are_nodes : AreNodes nodes
  pub reach : InReach (job c) c.written root
  pub free : is_carried (class_in c root) ≡ false
  pub kept : ℕ → Bool
  pub inside : (place : ℕ) → kept place ≡ true → in_cone (job c) (certain c.written) root place ≡ true
  pub variables : (place : ℕ) → is_variable (job c) (certain c.written) root place ≡ true → kept place ≡ true
  pub places : map place_of_node nodes ≡ map (place_at (job c)) (kept_places kept root)
  pub bodies : (position : ℕ) → position < length nodes
      → IsBodyOver (job c) (certain c.written) (kept_places kept root) (slice_index (kept_places kept root) position)
      (body_at nodes position)

-- They are the cone of the next place.
abbrev pub IsNextCone : Contents → List Node → Type 0
IsNextCone c nodes = IsConeOf c (next_number c) nodes

-- The whole cone is one.
abbrev pub WholeLaw : Type 0
WholeLaw = (c : Contents) (root : ℕ) (nodes : List Node) → IsWholeCone c root nodes → IsConeOf c root nodes

-- The sources of the nodes are those of the cone.
abbrev pub SourcesLaw : Type 0
SourcesLaw = (c : Contents) (root : ℕ) (nodes : List Node) → IsConeOf c root nodes
    → sources_of nodes ≡ map (place_at (job c)) (sources_in c root)

-- Bits for the sources choose a filling that lists sources alone, and the root has its bit in the world of that
-- filling.
pub record IsChosen (c : Contents) (root : ℕ) (nodes : List Node) (bits : ℕ → Bool) : Type 0 where
  pub filling : IsFilling (job c) (chosen (sources_of nodes) bits)
  pub alone : IsOfSources (job c) c.written root (chosen (sources_of nodes) bits)
  pub world : world_in c (chosen (sources_of nodes) bits) root ≡ root_bit (by_sources nodes bits) nodes

abbrev pub ChosenLaw : Type 0
ChosenLaw = (c : Contents) (root : ℕ) (nodes : List Node) (bits : ℕ → Bool) → IsConeOf c root nodes
    → IsChosen c root nodes bits

-- The bit of the root where no source is given 1 is the one that the query of the place denies.
abbrev pub BaseLaw : Type 0
BaseLaw = (c : Contents) (root : ℕ) (nodes : List Node) → IsConeOf c root nodes
    → root_bit nothing nodes ≡ denied_value (job c) (certain c.written) root

-- Each source has its bit in a filling: 1 where the filling lists it.
abbrev pub AreListed : List Node → List Place → (ℕ → Bool) → Type 0
AreListed nodes filling bits =
    (source : ℕ) → source < length (sources_of nodes) → bits source ≡ is_listed filling (source_at nodes source)

-- Such bits make the root's bit in the world of the filling.
abbrev pub ListedLaw : Type 0
ListedLaw = (c : Contents) (root : ℕ) (nodes : List Node) (filling : List Place) (bits : ℕ → Bool)
    → IsConeOf c root nodes → IsFilling (job c) filling → AreListed nodes filling bits
    → root_bit (by_sources nodes bits) nodes ≡ world_in c filling root

-- Numbers stand for all fillings of the sources: where each gives the root one bit, every filling of few sources does.
abbrev pub EnumeratedLaw : Type 0
EnumeratedLaw = (c : Contents) (root : ℕ) (nodes : List Node) (bit : Bool) → IsConeOf c root nodes
    → length (sources_of nodes) ≤ c.limits.enumerated
    → ((number : ℕ) → number < 2 ^ length (sources_of nodes)
    → root_bit (by_sources nodes (number_bits number)) nodes ≡ bit) → IsEnumerated (job c) c.limits c.written root bit

-- A bit is that of a place in the world of a filling, whichever place of a wave the nodes are the cone of.
abbrev pub IsWorldBit : List Node → List Place → Bool → Type 0
IsWorldBit nodes filling bit = (c : Contents) (root : ℕ) → IsConeOf c root nodes → IsFilling (job c) filling
    → bit ≡ world_in c filling root
