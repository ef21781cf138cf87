-- Literals and nodes, over what a wave holds.
use Rattle.std.specs.Prelude.{ℕ, Bool, List}
use Rattle.design_cell.specs.declared.value.Value.{Value}
use Rattle.design_circuit.specs.Waveform.{certain}
use Rattle.law_model.specs.Laws.{InReach}
use Rattle.wave_proved.specs.Contents.{Contents, job}
use Rattle.decide_graph.specs.Traced.{IsRule}
use Rattle.decide_lane_nodes.specs.Given.{lane_bit}
use Rattle.decide_lane_nodes.specs.Nodes.{NodeView}
use Rattle.decide_lane_nodes.specs.Covered.{CoversBefore}
use Rattle.decide_lane_nodes.specs.Literal.{IsLiteralOf, IsNodeOf, LiteralView}
use Rattle.decide_lane_nodes.specs.declared.literal.Covered.{Covered}

-- A place is written, or the next one.
abbrev pub IsInReach : Contents → ℕ → Type 0
IsInReach c place = InReach (job c) c.written place

-- The bit of a place in a lane.
abbrev pub bit_in_lane : Contents → ℕ → ℕ → Bool
bit_in_lane c place lane = lane_bit (job c) (certain c.written) lane place

abbrev pub IsLiteralIn : Contents → List NodeView → LiteralView → ℕ → Type 0
IsLiteralIn c nodes literal place = IsLiteralOf (job c) (certain c.written) nodes literal place

abbrev pub IsNodeIn : Contents → List NodeView → ℕ → ℕ → Type 0
IsNodeIn c nodes node place = IsNodeOf (job c) (certain c.written) nodes node place

abbrev pub CoversBeforeIn : Contents → Covered → ℕ → Type 0
CoversBeforeIn c covered place = CoversBefore (job c) (certain c.written) covered place

-- A place that isn't carried rests on some arguments, with a table over them.
abbrev pub IsRuleIn : Contents → ℕ → List ℕ → List Value → Type 0
IsRuleIn c place arguments values = IsRule (job c) (certain c.written) place arguments values
