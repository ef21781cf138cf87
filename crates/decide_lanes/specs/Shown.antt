-- What is shown of the next place.
use Rattle.std.specs.Prelude.{◌≡◌, ℕ, ◌<◌, Bool, List, length, map}
use Rattle.design_circuit.specs.declared.place.Place.{Place}
use Rattle.design_circuit.specs.Filling.{IsFilling}
use Rattle.wave_proved.specs.Contents.{Contents, job}
use Rattle.wave_proved.specs.Token.{HoldsWithoutLog}
use Rattle.decide_nodes.specs.declared.node.Node.{Node}
use Rattle.decide_nodes.specs.Traced.{IsConeOf, IsNextCone, world_in}
use Rattle.decide_lanes.specs.Pairs.{bit_under}
use Rattle.decide_lanes.specs.declared.shown.Shown.{Shown}
use Rattle.decide_lanes.specs.declared.shown.Shown.TheVariants.{Earlier, Nothing, Verdict}

-- Every filling gives it a bit.
abbrev pub GivesNext : Contents → Bool → Type 0
GivesNext c bit = (filling : List Place) → IsFilling (job c) filling → bit_under c filling ≡ bit

-- A place has its bit in the world of every filling.
abbrev pub HasNextBits : Contents → ℕ → Type 0
HasNextBits c place =
    (filling : List Place) → IsFilling (job c) filling → bit_under c filling ≡ world_in c filling place

-- A written place and the next one have cones whose nodes have the same bodies in the same order.
pub record HasNextCone (c : Contents) (place : ℕ) : Type 0 where
  pub written : place < length c.written
  pub nodes : List Node
  pub others : List Node
  pub own : IsConeOf c place nodes
  pub next : IsNextCone c others
  pub same : map (λ (node : Node). node.body) nodes ≡ map (λ (node : Node). node.body) others

-- What is shown of it is so: a line holds there, an enumeration or a pair; or the cone of an earlier place is like its
-- own.
abbrev pub IsShownNext : Contents → Shown → Type 0
IsShownNext c (Verdict line) = HoldsWithoutLog c line
IsShownNext c (Earlier place) = HasNextCone c place
IsShownNext c Nothing = Unit {0}
