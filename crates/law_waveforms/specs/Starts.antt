-- Two jobs that differ in starts: registers that start at x in the first start at 0 or 1 in the second.
use Rattle.std.specs.Prelude.{◌≡◌, ◌⊎◌, ℕ, ◌<◌, ◌≤◌, ◌*◌, ◌==◌, ◌&&◌, Bool, true, false, List, length, map, not}
use Rattle.std.specs.Prelude.{slice_index_or, if◌then◌else◌}
use Rattle.design_cell.specs.declared.value.Value.{Value}
use Rattle.design_cell.specs.declared.value.Value.TheVariants.{X}
use Rattle.design_cell.specs.Value.{IsKnown, bit_value, is_one, is_unknown}
use Rattle.design_circuit.specs.declared.design.Design.{Design}
use Rattle.design_circuit.specs.declared.design.Driver.{Driver}
use Rattle.design_circuit.specs.declared.design.Driver.TheVariants.{Input, Undriven, Constant, Copy, Cell, Register}
use Rattle.design_circuit.specs.declared.design.Latching.{Latching}
use Rattle.design_circuit.specs.declared.place.Place.{Place}
use Rattle.design_circuit.specs.declared.stim.StartRule.TheVariants.{Recorded}
use Rattle.design_circuit.specs.declared.stim.Stim.{Stim}
use Rattle.design_circuit.specs.declared.waveform.Written.{Written}
use Rattle.design_circuit.specs.Filling.{IsFilling, bit_of}
use Rattle.design_circuit.specs.Fits.{Fits, place_at}
use Rattle.design_circuit.specs.Job.{Job, job_of, net_of, places_of, step_of}
use Rattle.design_circuit.specs.Register.{has_unknown_clock, pins_at}
use Rattle.design_circuit.specs.Waveform.{certain}
use Rattle.law_model.specs.Laws.{world_over}
use Rattle.law_model.specs.Places.{places_where}
use Rattle.law_model.specs.Sound.{IsDecided, Sound}
use Rattle.law_model.specs.declared.line.Line.{Line as ALine}
use Rattle.law_model.specs.declared.limits.Limits.{Limits}

-- A job with other starts, and all else equal.
abbrev pub with_starts : Job → (ℕ → Value) → Job
with_starts j start = record j { start = start }

-- The job of a stimulus with other starts, and all else equal.
pub record DifferInStarts (a b : Stim) : Type 0 where
  pub times : b.times ≡ a.times
  pub rounds : b.rounds ≡ a.rounds
  pub inputs : b.inputs ≡ a.inputs
  pub rules : b.rules ≡ a.rules

abbrev pub JobsWithStarts : Type 0
JobsWithStarts = (design : Design) (order : List ℕ) (a b : Stim) → DifferInStarts a b
    → job_of design order b ≡ with_starts (job_of design order a) (λ net. slice_index_or b.starts net X)

-- Each start stays, or is x and is set to 0 or 1.
abbrev pub SetsStarts : Job → (ℕ → Value) → Type 0
SetsStarts j start = (net : ℕ) → net < j.width → (start net ≡ j.start net) ⊎ ((j.start net ≡ X) × IsKnown (start net))

-- Every clock pin of every register is certain at every step.
abbrev pub AreClocksCertain : Job → List Written → Type 0
AreClocksCertain j waveform = (step net : ℕ) (latching : Latching) → step < j.moments * j.rounds → net < j.width
    → j.driver net ≡ Register latching
    → has_unknown_clock latching.clocks (pins_at j (certain waveform) step latching.pins) ≡ false

abbrev pub is_register : Driver → Bool
is_register Input = false
is_register Undriven = false
is_register (Constant bit) = false
is_register (Copy argument) = false
is_register (Cell table pins) = false
is_register (Register latching) = true

-- The place at step 0 of a register whose start is set.
abbrev pub is_set : Job → (ℕ → Value) → ℕ → Bool
is_set j start place = (step_of j place == 0) && (is_register (j.driver (net_of j place))
    && (is_unknown (j.start (net_of j place)) && not (is_unknown (start (net_of j place)))))

-- Bits of places, with the bits of the starts at these.
abbrev pub with_set : Job → (ℕ → Value) → (ℕ → Bool) → ℕ → Bool
with_set j start bits place = if is_set j start place then is_one (start (net_of j place)) else bits place

-- A filling, to which those that are set to 1 are added, and without those that are set to 0.
abbrev pub set_filling : Job → (ℕ → Value) → List Place → List Place
set_filling j start filling = map (place_at j) (places_where (with_set j start (bit_of j filling)) (places_of j))

-- Two jobs of which the second has starts that are set, both under recorded starts; a sound waveform of the whole first
-- one, in which the clock pins are certain; and a sound one of the second, up to some place, without undecided places.
pub record AreSet (j : Job) (start : ℕ → Value) (v w : List Written) (lines more : List ALine) : Type 0 where
  pub fits : Fits j
  pub recorded : j.start_rule ≡ Recorded
  pub sets : SetsStarts j start
  pub limits : Limits
  pub shown : ℕ → Value
  pub first : Sound j limits shown v lines
  pub whole : length v ≡ places_of j
  pub clocks : AreClocksCertain j v
  pub bounds : Limits
  pub other : ℕ → Value
  pub second : Sound (with_starts j start) bounds other w more
  pub decided : IsDecided w

-- The second job fits too.
abbrev pub StartsFit : Type 0
StartsFit = (j : Job) (start : ℕ → Value) → Fits j → SetsStarts j start → Fits (with_starts j start)

-- The world of each filling of the second job is the world of the first for the filling with the places that are set,
-- up to each place that is written and the next.
pub record IsWorldOfFirst (j : Job) (start : ℕ → Value) (v w : List Written) (filling : List Place) : Type 0 where
  pub filled : IsFilling j (set_filling j start filling)
  pub same : (place : ℕ) → place < places_of j → place ≤ length w
      → world_over (with_starts j start) w filling place ≡ world_over j v (set_filling j start filling) place

abbrev pub WorldsOfFirst : Type 0
WorldsOfFirst = (j : Job) (start : ℕ → Value) (v w : List Written) (lines more : List ALine)
    → AreSet j start v w lines more → (filling : List Place) → IsFilling (with_starts j start) filling
    → IsWorldOfFirst j start v w filling

-- So what is certain in the first waveform is certain with the same value in the second.
abbrev pub CertainStays : Type 0
CertainStays = (j : Job) (start : ℕ → Value) (v w : List Written) (lines more : List ALine)
    → AreSet j start v w lines more → (place : ℕ) (bit : Bool) → place < length w
    → certain v place ≡ bit_value bit → certain w place ≡ bit_value bit
