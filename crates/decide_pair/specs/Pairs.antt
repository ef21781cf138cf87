-- When two fillings are no pair, and when 256 fillings of the sources agree.
use Rattle.std.specs.Prelude.{◌≡◌, ℕ, ◌<◌, ◌≤◌, Bool, true, false, List, [], count_ones, not}
use Rattle.design_circuit.specs.declared.place.Place.{Place}
use Rattle.law_model.specs.declared.line.Body.{Body}
use Rattle.law_model.specs.declared.line.Body.TheVariants.{Pair}
use Rattle.decide_nodes.specs.OfWave.{Contents, next_number}
use Rattle.decide_nodes.specs.declared.node.Node.{Node}
use Rattle.decide_nodes.specs.Lanes.{in_lane, root_in_lane}
use Rattle.decide_nodes.specs.Nodes.{nothing, root_bit}
use Rattle.decide_nodes.specs.Traced.{world_in}
use Rattle.decide_pair.specs.declared.check.BadPair.{BadPair}
use Rattle.decide_pair.specs.declared.check.BadPair.TheVariants.{NotZero, NotOne, Memory}

-- The bit of the next place in the world of a filling.
abbrev pub next_bit : Contents → List Place → Bool
next_bit c filling = world_in c filling (next_number c)

-- What each refusal says: the first gives 1, or it gives 0 and so does the second.
abbrev pub IsRefusal : Contents → List Place → List Place → BadPair → Type 0
IsRefusal c zero one NotZero = next_bit c zero ≡ true
IsRefusal c zero one NotOne = (next_bit c zero ≡ false) × (next_bit c one ≡ false)
IsRefusal c zero one Memory = Unit {0}

-- In each lane the root has its bit of the empty filling.
abbrev pub AllAgree : List Node → List (List ℕ) → Type 0
AllAgree nodes given = (lane : ℕ) → lane < 256 → root_in_lane nodes given lane ≡ root_bit nothing nodes

-- In a lane it has the other one.
abbrev pub Differs : List Node → List (List ℕ) → ℕ → Type 0
Differs nodes given lane = root_in_lane nodes given lane ≡ not (root_bit nothing nodes)

-- It has the other one in a lane whose number is among those with the least ones.
pub record IsLeastOther (nodes : List Node) (given : List (List ℕ)) (lane : ℕ) : Type 0 where
  pub within : lane < 256
  pub differs : Differs nodes given lane
  pub least : (other : ℕ) → other < 256 → Differs nodes given other → count_ones lane ≤ count_ones other

-- The empty filling and another one, where the empty one gives a bit and the other gives the other bit.
abbrev pub pair_with : Bool → List Place → Body
pair_with true other = Pair other []
pair_with false other = Pair [] other

-- Lanes have a 1 in a lane whose number is among those with the least ones.
pub record IsLeast (lane_bits : List ℕ) (lane : ℕ) : Type 0 where
  pub within : lane < 256
  pub one : in_lane lane_bits lane ≡ true
  pub least : (other : ℕ) → other < 256 → in_lane lane_bits other ≡ true → count_ones lane ≤ count_ones other
