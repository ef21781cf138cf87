-- The roots of places that have literals, by their nodes.
use Rattle.std.specs.Prelude.{◌≡◌, ◌⊎◌, ℕ, ◌<◌, ◌≤◌, Bool, length}
use Rattle.design_circuit.specs.declared.place.Place.{Place}
use Rattle.design_circuit.specs.Job.{number_of}
use Rattle.wave_proved.specs.Contents.{Contents, job}
use Rattle.wave_proved.specs.Pairs.{IsRootOf}
use Rattle.decide_lane_nodes.specs.Nodes.{node_at}
use Rattle.decide_lanes.specs.Lanes.{LanesView, count_of}

-- The place of a number has no literal: it was forgotten, or isn't covered yet.
abbrev pub IsUncovered : LanesView → ℕ → Type 0
IsUncovered lanes number = (number < lanes.first) ⊎ (count_of lanes ≤ number)

-- A node is there, which isn't the first one, and the number of its place.
pub record HasNode (lanes : LanesView) (node : ℕ) : Type 0 where
  pub some : 0 < node
  pub within : node < length lanes.nodes

abbrev pub place_of : LanesView → ℕ → ℕ
place_of lanes node = (node_at lanes.nodes node).place

-- A node is that of the root of a written place, and the others are that root.
pub record IsRootAt (c : Contents) (lanes : LanesView) (written_place : Place)
    (found : ℕ × (Place × Bool)) : Type 0 where
  pub node : HasNode lanes found.0
  pub root : IsRootOf c written_place found.1
  pub own : place_of lanes found.0 ≡ number_of (job c) found.1.0
