-- Graphs of places that aren't carried.
use Rattle.std.specs.Prelude.{◌≡◌, ℕ, ◌<◌, ◌≤◌, ◌^◌, false, List, [], ◌∷◌, ◌++◌, length, map, slice_index}
use Rattle.std.specs.List.Sorted.{IsStrictlyIncreasing}
use Rattle.design_circuit.specs.declared.waveform.Written.{Written}
use Rattle.design_circuit.specs.Fits.{place_at}
use Rattle.design_circuit.specs.Waveform.{certain}
use Rattle.law_model.specs.Cone.{is_carried}
use Rattle.law_model.specs.Laws.{InReach}
use Rattle.decide_nodes.specs.OfWave.{Contents, IsWave, class_in, job}
use Rattle.decide_nodes.specs.declared.node.Node.{Node}
use Rattle.decide_nodes.specs.Nodes.{StandsAt, body_at, node_at, place_of_node}
use Rattle.decide_nodes.specs.Traced.{IsBodyOver, IsConeOf}

-- Each node reads earlier ones alone.
pub record AreOrdered (nodes : List Node) : Type 0 where
  pub few : length nodes ≤ 2 ^ 27
  pub each : (node : ℕ) → node < length nodes → StandsAt node (node_at nodes node).body

-- Nodes are those of places of a wave, by their numbers, which ascend: of places that aren't carried, and that are
-- written or are the next one. Each reads the nodes at the roots of what its place rests on.
pub record IsGraphOf (c : Contents) (nodes : List Node) (numbers : List ℕ) : Type 0 where
  pub rises : IsStrictlyIncreasing numbers
  pub places : map place_of_node nodes ≡ map (place_at (job c)) numbers
  pub reach : (node : ℕ) → node < length nodes → InReach (job c) c.written (slice_index numbers node)
  pub free : (node : ℕ) → node < length nodes → is_carried (class_in c (slice_index numbers node)) ≡ false
  pub bodies : (node : ℕ) → node < length nodes
      → IsBodyOver (job c) (certain c.written) numbers (slice_index numbers node) (body_at nodes node)

-- Nodes are the cone of the place of a node, whichever wave a graph is of.
abbrev pub IsConeOfNode : List Node → ℕ → List Node → Type 0
IsConeOfNode nodes node cone = (c : Contents) (numbers : List ℕ) → IsWave c → IsGraphOf c nodes numbers
    → IsConeOf c (slice_index numbers node) cone

-- No nodes are a graph of every wave.
abbrev pub BeginLaw : Type 0
BeginLaw = (c : Contents) → IsGraphOf c [] []

-- A graph stays one, whatever is written next.
abbrev pub StayLaw : Type 0
StayLaw = (c d : Contents) (nodes : List Node) (numbers : List ℕ) (v : Written) → IsWave c → job d ≡ job c
    → d.written ≡ c.written ++ v ∷ [] → AreOrdered nodes → IsGraphOf c nodes numbers → IsGraphOf d nodes numbers
