-- What is told of the unknown bits.
use Rattle.std.specs.Prelude.{◌≡◌, ℕ, ◌<◌, Bool, true, false, List, [], ◌∷◌, ◌++◌, length}
use Rattle.std.specs.List.{filter}
use Rattle.design_circuit.specs.Job.{number_of}
use Rattle.design_circuit.specs.Row.{RowView}
use Rattle.design_circuit.specs.Settled.{last_step}
use Rattle.recording_binding.specs.BoundBits.{bound_bits}
use Rattle.recording_binding.specs.declared.binding.Bound.{Bound}
use Rattle.recording_binding.specs.declared.bound_bits.BoundBit.{BoundBit}
use Rattle.report_bits.specs.BoundPlaces.{bit_place}
use Rattle.report_bits.specs.Counts.{is_unknown_mark}
use Rattle.wave_proved.specs.Contents.{Contents, job, written_of}
use Rattle.report_blame.specs.ToBlame.{IsToBlame}
use Rattle.report_blame.specs.declared.bits.Blamed.{Blamed}

-- A row is that of the history at the last round of a moment.
pub record IsShownRow (c : Contents) (moment : ℕ) (row : RowView) : Type 0 where
  pub history : row.history ≡ c.history
  pub step : row.step ≡ last_step (job c) moment

abbrev pub is_unknown_bit : Contents → BoundBit → Bool
is_unknown_bit c bit = is_unknown_mark (written_of c (bit_place c bit)).mark

-- The bound bits that are unknown at the last rounds of moments, in the order of a report.
abbrev pub unknown_bits : Contents → List Bound → List BoundBit
unknown_bits c bound = filter (is_unknown_bit c) (bound_bits (length c.stim.times) bound)

-- A bit is told with its source and filling, which are to blame for its place.
pub record IsBlamed (c : Contents) (bit : BoundBit) (blamed : Blamed) : Type 0 where
  pub variable : blamed.variable ≡ bit.variable
  pub index : blamed.bit ≡ bit.bit
  pub place : blamed.place ≡ bit_place c bit
  pub cause : IsToBlame c (number_of (job c) blamed.place) blamed.source blamed.others

-- Each of some bits is told, in order, and nothing else is.
abbrev pub AreBlamed : Contents → List BoundBit → List Blamed → Type 0
AreBlamed c [] [] = Unit {0}
AreBlamed c (bit ∷ bits) (blamed ∷ others) = IsBlamed c bit blamed × AreBlamed c bits others
AreBlamed c [] (blamed ∷ others) = ⊥
AreBlamed c (bit ∷ bits) [] = ⊥

-- A bit more is told, or none.
pub record IsOneMore (c : Contents) (bit : BoundBit) (old new : List Blamed) : Type 0 where
  pub blamed : Blamed
  pub is : IsBlamed c bit blamed
  pub new_is : new ≡ old ++ blamed ∷ []

abbrev pub AddsIf : Bool → Contents → BoundBit → List Blamed → List Blamed → Type 0
AddsIf true c bit old new = IsOneMore c bit old new
AddsIf false c bit old new = new ≡ old

-- A bit is told where it is unknown.
abbrev pub AddsBit : Contents → BoundBit → List Blamed → List Blamed → Type 0
AddsBit c bit old new = AddsIf (is_unknown_bit c bit) c bit old new
