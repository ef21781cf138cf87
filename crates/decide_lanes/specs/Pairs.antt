-- Lanes that differ.
use Rattle.std.specs.Prelude.{◌≡◌, ◌⊎◌, ℕ, ◌<◌, Bool, true, false, List, Option, None, filter, length, map, not}
use Rattle.design_circuit.specs.declared.place.Place.{Place}
use Rattle.design_circuit.specs.Filling.{bit_of}
use Rattle.design_circuit.specs.Fits.{place_at}
use Rattle.design_circuit.specs.Job.{Job}
use Rattle.design_circuit.specs.Waveform.{certain}
use Rattle.design_circuit.specs.World.{world_bit}
use Rattle.law_model.specs.Cone.{source_filling}
use Rattle.wave_proved.specs.Contents.{Contents, job, next_number}
use Rattle.decide_nodes.specs.Lanes.{in_lane}
use Rattle.decide_lane_nodes.specs.Given.{empty_lane, lane_given}
use Rattle.decide_lane_nodes.specs.InWave.{bit_in_lane}
use Rattle.decide_lane_nodes.specs.Nodes.{NodeView, node_at}

-- In each lane there is the bit that there is in that of the empty filling.
abbrev pub IsSame : List ℕ → Type 0
IsSame lane_bits = (lane : ℕ) → lane < 256 → in_lane lane_bits lane ≡ in_lane lane_bits empty_lane

-- In a lane there is another one.
pub record IsOther (lane_bits : List ℕ) (lane : ℕ) : Type 0 where
  pub within : lane < 256
  pub differs : in_lane lane_bits lane ≡ not (in_lane lane_bits empty_lane)

-- Some lanes are among others.
abbrev pub AreAmong : List ℕ → List ℕ → Type 0
AreAmong some all = (lane : ℕ) → lane < 256 → in_lane some lane ≡ true → in_lane all lane ≡ true

-- In two lanes there are 0 and 1.
pub record AreTwo (lane_bits : List ℕ) (lanes : ℕ × ℕ) : Type 0 where
  pub zero_within : lanes.0 < 256
  pub one_within : lanes.1 < 256
  pub zero : in_lane lane_bits lanes.0 ≡ false
  pub one : in_lane lane_bits lanes.1 ≡ true

-- A node has no pair: its bit is the same in each lane, or its sources aren't kept.
abbrev pub FindsNone : List ℕ → Option (List ℕ) → Type 0
FindsNone lane_bits sources = IsSame lane_bits ⊎ (sources ≡ None)

abbrev pub HasNoPair : List NodeView → ℕ → Type 0
HasNoPair nodes node = FindsNone (node_at nodes node).lane_bits (node_at nodes node).sources

-- What the filling of a lane lists of the sources of the next place.
abbrev pub lane_filling : Contents → ℕ → List Place
lane_filling c lane = source_filling (job c) (certain c.written) (next_number c) (lane_given (job c) lane)

-- The next place has one bit in the worlds of all lanes' fillings; in those of two lanes it has 0 and 1.
abbrev pub next_bit : Contents → ℕ → Bool
next_bit c lane = bit_in_lane c (length c.written) lane

abbrev pub AllAgree : Contents → Type 0
AllAgree c = (lane : ℕ) → lane < 256 → next_bit c lane ≡ next_bit c empty_lane

pub record GiveBoth (c : Contents) (lanes : ℕ × ℕ) : Type 0 where
  pub zero_within : lanes.0 < 256
  pub one_within : lanes.1 < 256
  pub zero : next_bit c lanes.0 ≡ false
  pub one : next_bit c lanes.1 ≡ true

-- The bit of the next place in the world of a filling.
abbrev pub bit_under : Contents → List Place → Bool
bit_under c filling = world_bit (job c) (certain c.written) (bit_of (job c) filling) (next_number c)

-- A lane's filling lists just these places of some.
pub record ListsJust (j : Job) (list : List ℕ) (filling : List Place) (lane : ℕ) : Type 0 where
  pub within : lane < 256
  pub same : filling ≡ map (place_at j) (filter (lane_given j lane) list)
