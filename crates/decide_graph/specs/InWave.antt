-- What is said of places, over what a wave holds.
use Rattle.std.specs.Prelude.{ℕ, List}
use Rattle.design_cell.specs.declared.value.Value.{Value}
use Rattle.wave_class.specs.Arguments.{uncertain_places}
use Rattle.design_circuit.specs.Waveform.{certain}
use Rattle.law_model.specs.Cone.{essentials}
use Rattle.law_model.specs.Laws.{InReach}
use Rattle.decide_nodes.specs.OfWave.{Contents, job}
use Rattle.decide_graph.specs.Table.{IsTableOver}
use Rattle.decide_graph.specs.Traced.{AreTraced, IsBodyOf}
use Rattle.decide_graph.specs.declared.traced.TracedBody.{TracedBody}

-- A place is written, or the next one.
abbrev pub IsInReach : Contents → ℕ → Type 0
IsInReach c place = InReach (job c) c.written place

abbrev pub uncertain_in : Contents → ℕ → List ℕ
uncertain_in c place = uncertain_places (job c) (certain c.written) place

abbrev pub essentials_in : Contents → ℕ → List ℕ
essentials_in c place = essentials (job c) (certain c.written) place

abbrev pub IsTableIn : Contents → ℕ → List ℕ → List Value → Type 0
IsTableIn c place places values = IsTableOver (job c) (certain c.written) place places values

abbrev pub IsBodyIn : Contents → ℕ → TracedBody → Type 0
IsBodyIn c place body = IsBodyOf (job c) (certain c.written) place body

abbrev pub AreTracedIn : Contents → ℕ → List ℕ → Type 0
AreTracedIn c root places = AreTraced (job c) (certain c.written) root places
