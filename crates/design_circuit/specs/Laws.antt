-- Laws of rules, worlds and exact waveforms.
use Rattle.std.specs.Prelude.{◌≡◌, ℕ, ◌<◌, ◌≤◌, Bool, List, length}
use Rattle.std.specs.List.{AllByRecursion}
use Rattle.design_cell.specs.declared.value.Value.{Value}
use Rattle.design_circuit.specs.Job.{Job, places_of, job_of, driver_in}
use Rattle.design_circuit.specs.Order.{IsOrder}
use Rattle.design_circuit.specs.Design.{FitsDesign}
use Rattle.design_circuit.specs.Stim.{FitsStim}
use Rattle.design_circuit.specs.declared.design.Design.{Design}
use Rattle.design_circuit.specs.declared.design.Driver.{Driver}
use Rattle.design_circuit.specs.declared.stim.Stim.{Stim}
use Rattle.design_circuit.specs.Fits.{Fits}
use Rattle.design_circuit.specs.Replay.{Held, driven, kept, kept_by}
use Rattle.design_circuit.specs.Rule.{rule, arguments}
use Rattle.design_circuit.specs.World.{IsWorld, world_bit}
use Rattle.design_circuit.specs.Waveform.{Written, IsExact, Shows}

-- The rule of a place reads the bits of its argument places alone.
abbrev pub RuleReadsArguments : Type 0
RuleReadsArguments = (j : Job) (c : ℕ → Value) (f g : ℕ → Bool) (place : ℕ)
    → AllByRecursion (λ k. f k ≡ g k) (arguments j c place) → rule j c f place ≡ rule j c g place

-- These stand before the place.
abbrev pub ArgumentsStandBefore : Type 0
ArgumentsStandBefore = (j : Job) → Fits j → (c : ℕ → Value) (place : ℕ) → place < places_of j
    → AllByRecursion (λ k. k < place) (arguments j c place)

-- So the rule of a place reads what earlier places have, certain values and bits.
abbrev pub RuleReadsEarlier : Type 0
RuleReadsEarlier = (j : Job) → Fits j → (c d : ℕ → Value) (f g : ℕ → Bool) (place : ℕ) → place < places_of j
    → ((k : ℕ) → k < place → c k ≡ d k) → ((k : ℕ) → k < place → f k ≡ g k) → rule j c f place ≡ rule j d g place

-- Each filling has a world.
abbrev pub WorldsExist : Type 0
WorldsExist = (j : Job) → Fits j → (c : ℕ → Value) (f : ℕ → Bool) → IsWorld j c f (places_of j) (world_bit j c f)

-- It has no other.
abbrev pub WorldsAreUnique : Type 0
WorldsAreUnique = (j : Job) → Fits j → (c : ℕ → Value) (f : ℕ → Bool) (w : ℕ → Bool) → IsWorld j c f (places_of j) w
    → (place : ℕ) → place < places_of j → w place ≡ world_bit j c f place

-- There is at most one waveform that is exact at each place and shows a history.
abbrev pub ExactIsUnique : Type 0
ExactIsUnique = (j : Job) (shown : ℕ → Value) (v w : List Written) → Fits j → length v ≡ length w → length v
    ≤ places_of j → IsExact j v → IsExact j w → Shows shown v → Shows shown w → v ≡ w

-- A design, its order and a stimulus that fit make a job that fits.
abbrev pub JobsFit : Type 0
JobsFit = (design : Design) (order : List ℕ) (stim : Stim) → FitsDesign design
    → IsOrder (driver_in design) (length design.nets) order → FitsStim design stim → 0 < stim.rounds → stim.rounds ≤ 16
    → Fits (job_of design order stim)

-- A driver keeps what it gives where it is a register, and else nothing.
abbrev pub KeepsWhatItGives : Type 0
KeepsWhatItGives = (j : Job) (earlier : ℕ → Held) (step net : ℕ) (driver : Driver) → kept j earlier step net driver
    ≡ kept_by driver (driven j earlier step net driver)
