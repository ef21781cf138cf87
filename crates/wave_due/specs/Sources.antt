-- What the recording and the history may make due as a step begins.
use Rattle.std.specs.Prelude.{◌≡◌, ℕ, ◌<◌, ◌≤◌, Bool, true, false, Contains, List, length, slice_index}
use Rattle.design_cell.specs.declared.value.Value.{Value}
use Rattle.design_circuit.specs.declared.design.Driver.{Driver}
use Rattle.design_circuit.specs.declared.design.Driver.TheVariants.{Cell, Constant, Copy, Input, Register, Undriven}
use Rattle.design_circuit.specs.Job.{Job}
use Rattle.replay_fans.specs.Nets.{driver_on, net_on}
use Rattle.law_model.specs.Class.{before}
use Rattle.wave_bytes.specs.OfQuiet.{IsRecordedOn, spot_at}
use Rattle.replay_due.specs.Due.{is_due}

-- A driver on which the recording may act: that of an input, or none.
abbrev pub is_source : Driver → Bool
is_source Input = true
is_source Undriven = true
is_source (Constant bit) = false
is_source (Copy argument) = false
is_source (Cell table pins) = false
is_source (Register latching) = false

-- All positions at which such a driver stands are listed, of those before a position.
pub record AreSources (j : Job) (end : ℕ) (sources : List ℕ) : Type 0 where
  pub within : (i : ℕ) → i < length sources → slice_index sources i < j.width
  pub all : (p : ℕ) → p < end → is_source (driver_on j p) ≡ true → Contains sources p

-- What isn't due in a step is recorded as a step before, or is no matter of the recording.
abbrev pub AreStirredDue : Job → ℕ → List ℕ → Type 0
AreStirredDue j step due =
    (p : ℕ) → p < j.width → is_due due p ≡ false → IsRecordedOn j step (net_on j p) (driver_on j p)

-- Of the first sources.
abbrev pub AreSourcesDue : Job → ℕ → List ℕ → ℕ → List ℕ → Type 0
AreSourcesDue j step sources n due = (i : ℕ) → i < n → is_due due (slice_index sources i) ≡ false
    → IsRecordedOn j step (net_on j (slice_index sources i)) (driver_on j (slice_index sources i))

-- The history shows, at each position from one on that isn't due, what it shows at its net's place a step before.
abbrev pub ShowsOn : Job → (ℕ → Value) → ℕ → ℕ → List ℕ → Type 0
ShowsOn j shown step position due = (p : ℕ) → position ≤ p → p < j.width → is_due due p ≡ false
    → shown (spot_at j step p) ≡ shown (before j (spot_at j step p))
