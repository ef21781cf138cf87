-- The lines of the bits moment by moment, by the nets of the bits. No contract of a public call names these.
use Rattle.std.specs.Prelude.{◌≡◌, ℕ, zero, suc, ◌+◌, ◌-◌, ◌*◌, ◌<◌, ◌≤◌, ◌^◌, ◌⊎◌, Bool, false, List, [], ◌++◌, All}
use Rattle.std.specs.Prelude.{Contains, length, slice_index}
use Rattle.std.specs.List.{flat_map}
use Rattle.design_cell.specs.Value.{is_unknown}
use Rattle.design_circuit.specs.History.{net_place}
use Rattle.recording_binding.specs.declared.binding.Bound.{Bound}
use Rattle.recording_binding.specs.declared.bound_bits.BoundBit.{BoundBit}
use Rattle.design_circuit.specs.Waveform.{written_at}
use Rattle.replay_history.specs.Watched.{AreReadersDue}
use Rattle.replay_due.specs.Due.{is_due}
use Rattle.replay_due.specs.Readers.{IsReaderTable, reading_at, readers_of}
use Rattle.replay_due.specs.declared.readings.Reading.{Reading}
use Rattle.report_bits.specs.Bits.{bound_line, recorded_in}
use Rattle.report_bits.specs.declared.lines.ReportLines.{ReportLines}
use Rattle.report_bits.specs.declared.nets.BitNets.{BitNets}
use Rattle.wave_proved.specs.Contents.{Contents, written_of}

-- The nets of all bits of bound variables, in the order of a report.
abbrev pub bit_nets : List Bound → List ℕ
bit_nets bound = flat_map (λ (b : Bound). b.bits) bound

-- A bit of a net in a moment. Its line is made from these alone.
abbrev pub bit_of : ℕ → ℕ → BoundBit
bit_of moment net = record { moment = moment; variable = 0; bit = 0; net = net }

abbrev pub net_line : Contents → ReportLines → ℕ → ℕ → List ℕ
net_line c lines moment net = bound_line c lines (bit_of moment net)

-- The lines of a moment.
abbrev pub moment_lines : Contents → ReportLines → ℕ → List ℕ → List ℕ
moment_lines c lines moment nets = flat_map (net_line c lines moment) nets

-- Those of so many moments from one on.
abbrev pub moments_lines : Contents → ReportLines → List ℕ → ℕ → ℕ → List ℕ
moments_lines c lines nets moment zero = []
moments_lines c lines nets moment (suc more) =
    moment_lines c lines moment nets ++ moments_lines c lines nets (moment + 1) more

-- x or z is recorded of a net, as the history shows it at a step.
abbrev pub is_unknown_at : Contents → ℕ → ℕ → Bool
is_unknown_at c step net = is_unknown (recorded_in c (net_place step net))

-- Each bit is due, or 0 or 1 is recorded of it. The same of the first so many.
abbrev pub KnownUnlessDue : Contents → List ℕ → ℕ → List ℕ → Type 0
KnownUnlessDue c nets step due = (number : ℕ) → number < length nets → is_due due number ≡ false
    → is_unknown_at c step (slice_index nets number) ≡ false

abbrev pub KnownUnlessDueTo : Contents → List ℕ → ℕ → ℕ → List ℕ → Type 0
KnownUnlessDueTo c nets step to due = (number : ℕ) → number < to → number < length nets → is_due due number ≡ false
    → is_unknown_at c step (slice_index nets number) ≡ false

-- Each bit is due, or has no line in a moment.
abbrev pub QuietUnlessDue : Contents → ReportLines → ℕ → List ℕ → List ℕ → Type 0
QuietUnlessDue c lines moment nets due = (number : ℕ) → number < length nets → is_due due number ≡ false
    → net_line c lines moment (slice_index nets number) ≡ []

-- A net has at a step what it has at an earlier one, in the history and in the wave.
pub record IsToldSame (c : Contents) (earlier step net : ℕ) : Type 0 where
  pub recorded : recorded_in c (net_place step net) ≡ recorded_in c (net_place earlier net)
  pub written : written_of c (net_place step net) ≡ written_of c (net_place earlier net)

-- Each bit is due, or its net has what it has at an earlier step.
abbrev pub SameUnlessDue : Contents → List ℕ → ℕ → ℕ → List ℕ → Type 0
SameUnlessDue c nets earlier step due = (number : ℕ) → number < length nets → is_due due number ≡ false
    → IsToldSame c earlier step (slice_index nets number)

-- Each bit is due, or the history shows of its net what it shows one step before. So it is with what the wave has.
abbrev pub ShownUnlessDue : Contents → List ℕ → ℕ → List ℕ → Type 0
ShownUnlessDue c nets step due = (number : ℕ) → number < length nets → is_due due number ≡ false
    → recorded_in c (net_place step (slice_index nets number))
    ≡ recorded_in c (net_place (step - 1) (slice_index nets number))

abbrev pub WrittenUnlessDue : Contents → List ℕ → ℕ → List ℕ → Type 0
WrittenUnlessDue c nets step due = (number : ℕ) → number < length nets → is_due due number ≡ false
    → written_of c (net_place step (slice_index nets number))
    ≡ written_of c (net_place (step - 1) (slice_index nets number))

-- The bits of the net at a position are due, or at its place stands what stands there one step before.
abbrev pub IsMarkedAt : Contents → BitNets → ℕ → List ℕ → ℕ → Type 0
IsMarkedAt c bits step due position = AreReadersDue bits.readers (slice_index c.order position) due
    ⊎ (written_at c.written (step * length c.design.nets + position)
    ≡ written_at c.written ((step - 1) * length c.design.nets + position))

-- Bits of so many nets, each of which is among the readers of its own. No net and no bit is as great as their room.
pub record AreBitNets (nets : ℕ) (bits : BitNets) : Type 0 where
  pub small : bits.room ≤ 2 ^ 20
  pub inside : nets ≤ bits.room
  pub few : length bits.nets.items ≤ bits.room
  pub low : All (λ net. net < nets) bits.nets.items
  pub table : IsReaderTable bits.room bits.readers
  pub has : (number : ℕ) → number < length bits.nets.items
      → Contains (readers_of bits.readers (slice_index bits.nets.items number)) number

-- Each bit reads its net.
pub record AreReadingsOf (nets : List ℕ) (readings : List Reading) : Type 0 where
  pub long : length readings ≡ length nets
  pub net : (i : ℕ) → i < length readings → (reading_at readings i).net ≡ slice_index nets i
  pub position : (i : ℕ) → i < length readings → (reading_at readings i).position ≡ i
