-- The boundary of a cone: the places that its places read and that aren't of it, and which of these are certain.
use Rattle.std.specs.Prelude.{◌≡◌, ℕ, ◌+◌, ◌<◌, ◌&&◌, ◌||◌, Bool, not, List, [], filter, length, map, reverse}
use Rattle.std.specs.List.{AllByRecursion, list_any}
use Rattle.design_cell.specs.declared.value.Value.{Value}
use Rattle.design_cell.specs.Value.{is_unknown}
use Rattle.design_circuit.specs.declared.place.Place.{Place}
use Rattle.design_circuit.specs.Filling.{IsPlace}
use Rattle.design_circuit.specs.Fits.{place_at}
use Rattle.design_circuit.specs.Job.{Job, number_of, places_of}
use Rattle.design_circuit.specs.Waveform.{certain}
use Rattle.law_model.specs.Assignment.{argument_places}
use Rattle.law_model.specs.Class.{class_of}
use Rattle.law_model.specs.Cone.{cone, in_cone, is_carried}
use Rattle.law_model.specs.Places.{among, places_where}
use Rattle.wave_proved.specs.Contents.{Contents, job}
use Rattle.decide_nodes.specs.declared.node.Node.{Node}
use Rattle.decide_nodes.specs.declared.node.NodeBody.{NodeBody as Body}
use Rattle.decide_nodes.specs.declared.node.NodeBody.TheVariants.{Carried, Rule}
use Rattle.decide_nodes.specs.Traced.{IsWholeCone}

-- A place that isn't carried reads its argument places.
abbrev pub reads : Job → (ℕ → Value) → ℕ → ℕ → Bool
reads j certain k place = not (is_carried (class_of j certain place)) && among (argument_places j certain place) k

-- A place isn't one of some places.
abbrev pub is_outside : List ℕ → ℕ → Bool
is_outside places k = not (among places k)

-- A boundary place is outside of the cone, and a place of the cone reads it.
abbrev pub is_boundary : Job → (ℕ → Value) → ℕ → ℕ → Bool
is_boundary j certain root k =
    is_outside (cone j certain root) k && list_any (reads j certain k) (cone j certain root)

abbrev pub boundary : Job → (ℕ → Value) → ℕ → List ℕ
boundary j certain root = places_where (is_boundary j certain root) root

abbrev pub boundary_in : Contents → ℕ → List ℕ
boundary_in c root = boundary (job c) (certain c.written) root

-- The certain boundary are its certain places.
abbrev pub certain_boundary : Job → (ℕ → Value) → ℕ → List ℕ
certain_boundary j certain root = filter (λ k. not (is_unknown (certain k))) (boundary j certain root)

abbrev pub is_certain_in : Contents → ℕ → Bool
is_certain_in c k = not (is_unknown (certain c.written k))

abbrev pub certain_boundary_in : Contents → ℕ → List ℕ
certain_boundary_in c root = certain_boundary (job c) (certain c.written) root

-- Places of the cone and of its boundary.
abbrev pub is_near : Job → (ℕ → Value) → ℕ → ℕ → Bool
is_near j certain root k = in_cone j certain root k || is_boundary j certain root k

abbrev pub near : Job → (ℕ → Value) → ℕ → List ℕ
near j certain root = places_where (is_near j certain root) (root + 1)

abbrev pub near_in : Contents → ℕ → List ℕ
near_in c root = near (job c) (certain c.written) root

-- Nodes are the whole cone of some place of a wave.
pub record IsSomeCone (c : Contents) (nodes : List Node) : Type 0 where
  pub root : ℕ
  pub is : IsWholeCone c root nodes

-- Places are its boundary places, in place order, or the certain ones of them.
abbrev pub IsBoundary : Contents → List Node → List Place → Type 0
IsBoundary c nodes places =
    (root : ℕ) → IsWholeCone c root nodes → places ≡ map (place_at (job c)) (boundary_in c root)

abbrev pub IsCertainBoundary : Contents → List Node → List Place → Type 0
IsCertainBoundary c nodes places =
    (root : ℕ) → IsWholeCone c root nodes → places ≡ map (place_at (job c)) (certain_boundary_in c root)

-- Numbers of places are those of the places of the cone, in place order, or of these and its boundary.
abbrev pub AreInside : Contents → List Node → List ℕ → Type 0
AreInside c nodes numbers = (root : ℕ) → IsWholeCone c root nodes → numbers ≡ cone (job c) (certain c.written) root

abbrev pub AreNear : Contents → List Node → List ℕ → Type 0
AreNear c nodes numbers = (root : ℕ) → IsWholeCone c root nodes → numbers ≡ near_in c root

-- Numbers of places are those of the boundary, from the greatest to the least, each of a written place of the job.
pub record IsFallingBoundary (c : Contents) (nodes : List Node) (numbers : List ℕ) : Type 0 where
  pub are : (root : ℕ) → IsWholeCone c root nodes → reverse numbers ≡ boundary_in c root
  pub written : AllByRecursion (λ k. k < length c.written) numbers
  pub within : AllByRecursion (λ k. k < places_of (job c)) numbers

-- The number of a node's place, which is one of a job.
abbrev pub number_in : Job → Node → ℕ
number_in j node = number_of j node.place

abbrev pub IsPlaceIn : Job → Node → Type 0
IsPlaceIn j node = IsPlace j node.place

-- What a node with a body at a place reads that is outside of some places.
abbrev pub read_in : Contents → List ℕ → Body → ℕ → List ℕ
read_in c places (Carried node inverted) place = []
read_in c places (Rule arguments values) place =
    filter (is_outside places) (argument_places (job c) (certain c.written) place)
