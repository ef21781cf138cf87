-- The lines of a report that tell what became of the recorded bits that are x or z.
use Rattle.std.specs.Prelude.{ℕ, ◌-◌, ◌==◌, Bool, true, not, ◌&&◌, ◌||◌, List, [], ◌∷◌, ◌++◌, bytes_eq, codes, decimal}
use Rattle.std.specs.Prelude.{length, slice_index, if◌then◌else◌}
use Rattle.std.specs.List.{flat_map}
use Rattle.design_cell.specs.declared.value.Value.{Value}
use Rattle.design_cell.specs.Value.{is_unknown, letter_of}
use Rattle.design_circuit.specs.Design.{name_in}
use Rattle.design_circuit.specs.History.{held_in}
use Rattle.design_circuit.specs.Name.{written_name}
use Rattle.design_circuit.specs.Settled.{last_step}
use Rattle.design_circuit.specs.declared.place.Place.{Place}
use Rattle.design_circuit.specs.declared.waveform.Mark.{Mark}
use Rattle.design_circuit.specs.declared.waveform.Mark.TheVariants.{Certain, Unknown, Undecided}
use Rattle.recording_binding.specs.BoundBits.{bound_bits}
use Rattle.recording_binding.specs.declared.binding.Binding.{Binding}
use Rattle.recording_binding.specs.declared.bound_bits.BoundBit.{BoundBit}
use Rattle.base_lists.specs.Text.{line}
use Rattle.report_bits.specs.declared.lines.ReportLines.{ReportLines}
use Rattle.report_bits.specs.declared.lines.ReportLines.TheVariants as named
use Rattle.wave_proved.specs.Contents.{Contents, job, written_of}

-- What became of a bit: its value where that is certain.
abbrev pub result_of : Mark → Value → List ℕ
result_of Certain value = letter_of value ∷ []
result_of Unknown value = codes "unknown"
result_of Undecided value = codes "undecided"

-- The recorded value at a place is what the history shows there.
abbrev pub recorded_in : Contents → Place → Value
recorded_in c place = (held_in c.history place).shown

-- What a wave has at a place.
abbrev pub result_in : Contents → Place → List ℕ
result_in c place = result_of (written_of c place).mark (written_of c place).value

-- The time, the net's written name, the recorded value and the result, with spaces between.
abbrev pub told_line : Contents → ℕ → Place → List ℕ
told_line c time place =
    line (codes "#" ++ decimal time ++ codes " " ++ written_name (name_in c.design place.net) ++ codes " "
    ++ letter_of (recorded_in c place) ∷ [] ++ codes " " ++ result_in c place)

-- That line where x or z is recorded, else nothing.
abbrev pub bit_line : Contents → ℕ → Place → List ℕ
bit_line c time place = if is_unknown (recorded_in c place) then told_line c time place else []

-- A net's place at the last round of a moment.
abbrev pub place_in : Contents → ℕ → ℕ → Place
place_in c moment net = record { step = last_step (job c) moment; net = net }

-- The line of a bound bit, there.
abbrev pub told_bit : Contents → BoundBit → List ℕ
told_bit c bit = bit_line c (slice_index c.stim.times bit.moment) (place_in c bit.moment bit.net)

-- The same was recorded at two places, and the same became of it.
abbrev pub is_told_again : Contents → Place → Place → Bool
is_told_again c place other =
    letter_of (recorded_in c place) == letter_of (recorded_in c other)
    && bytes_eq (result_in c place) (result_in c other)

-- A bit's moment is the first, or its recorded value or its result isn't what it was a moment before.
abbrev pub is_told_anew : Contents → BoundBit → Bool
is_told_anew c bit =
    bit.moment == 0
    || not (is_told_again c (place_in c bit.moment bit.net) (place_in c (bit.moment - 1) bit.net))

-- A bit is told in each moment, or where it is told anew.
abbrev pub is_told : Contents → ReportLines → BoundBit → Bool
is_told c named.All bit = true
is_told c named.Changes bit = is_told_anew c bit

-- Its line where it is told.
abbrev pub bound_line : Contents → ReportLines → BoundBit → List ℕ
bound_line c lines bit = if is_told c lines bit then told_bit c bit else []

-- The lines of all bound bits, in their order.
unfoldable pub bit_lines : Contents → Binding → ReportLines → List ℕ
bit_lines c binding lines = flat_map (bound_line c lines) (bound_bits (length c.stim.times) binding.bound)
