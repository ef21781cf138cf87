-- Places that literals cover: those that have one.
use Rattle.std.specs.Prelude.{ℕ, ◌+◌, ◌-◌, ◌<◌, ◌≤◌, Bool, List, Option, length, slice_index_or}
use Rattle.std.specs.List.{AllByRecursion}
use Rattle.design_cell.specs.declared.value.Value.{Value}
use Rattle.design_cell.specs.declared.value.Value.TheVariants.{X}
use Rattle.design_circuit.specs.Job.{Job}
use Rattle.design_circuit.specs.World.{decided}
use Rattle.decide_graph.specs.declared.node_root.NodeRoot.{NodeRoot}
use Rattle.decide_lane_nodes.specs.Literal.{AreLiteralsFrom, LiteralView, ReachesBack, literal_bit, literal_in}
use Rattle.decide_lane_nodes.specs.Nodes.{node_at, numbers_of}
use Rattle.decide_lane_nodes.specs.declared.literal.Covered.{Covered}

-- A place has a literal, over a node that is there.
pub record IsCovered (covered : Covered) (place : ℕ) : Type 0 where
  pub first : covered.first ≤ place
  pub below : place < covered.first + length covered.literals.now.literals
  pub node : (literal_in covered.first covered.literals.now.literals place).node < length covered.nodes.now

-- Its literal, its bit in a lane, and its sources, where they are kept.
abbrev pub covered_literal : Covered → ℕ → LiteralView
covered_literal covered place = literal_in covered.first covered.literals.now.literals place

abbrev pub covered_bit : Covered → ℕ → ℕ → Bool
covered_bit covered lane place = literal_bit covered.nodes.now (covered_literal covered place) lane

abbrev pub covered_sources : Covered → ℕ → Option (List ℕ)
covered_sources covered place = (node_at covered.nodes.now (covered_literal covered place).node).sources

-- The root of a place that has a literal, by the node in the graph.
abbrev pub covered_root : Covered → ℕ → NodeRoot
covered_root covered place =
    record { node = (covered_literal covered place).node - 1; inverted = (covered_literal covered place).inverted }

-- It isn't over the first node.
abbrev pub HasOwnNode : Covered → ℕ → Type 0
HasOwnNode covered place = 0 < (covered_literal covered place).node

-- The literals are those of their places, up to a place, and all that this place may read has one.
pub record CoversBefore (j : Job) (certain : ℕ → Value) (covered : Covered) (place : ℕ) : Type 0 where
  pub each : AreLiteralsFrom j certain covered.nodes.now covered.first covered.literals.now.literals
  pub up : place ≤ covered.first + length covered.literals.now.literals
  pub far : ReachesBack j covered.first place

-- The nodes after the first are of places before it.
abbrev pub AreBefore : Covered → ℕ → Type 0
AreBefore covered place = AllByRecursion (λ k. k < place) (numbers_of covered.nodes.now)

-- The bit of the value of a table at a number, or what a filling gives where that is x.
abbrev pub table_bit : List Value → ℕ → Bool → Bool
table_bit values number filling = decided (slice_index_or values number X) filling
