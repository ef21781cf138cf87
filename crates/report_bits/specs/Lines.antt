-- A finished wave and which lines of it a report has, as one, and the bits of a moment. No contract of a public call
-- names these.
use Rattle.std.specs.Prelude.{ℕ, List, length, slice_index}
use Rattle.design_circuit.specs.Settled.{last_step}
use Rattle.design_circuit.specs.declared.place.Place.{Place}
use Rattle.recording_binding.specs.BoundBits.{IsBitOf}
use Rattle.recording_binding.specs.declared.binding.Binding.{Binding}
use Rattle.recording_binding.specs.declared.bound_bits.BoundBit.{BoundBit}
use Rattle.report_bits.specs.Bits.{bit_lines, bound_line, place_in}
use Rattle.report_bits.specs.Marked.{KnownUnlessDue, KnownUnlessDueTo, QuietUnlessDue, moment_lines, net_line}
use Rattle.report_bits.specs.declared.lines.MomentBits.{MomentBits}
use Rattle.report_bits.specs.declared.lines.WaveLines.{WaveLines}
use Rattle.wave_proved.specs.Contents.{job}

-- How many moments there are, and the step of the last round of one.
abbrev pub moment_count : WaveLines → ℕ
moment_count from = length from.wave.now.stim.times

abbrev pub step_in : WaveLines → ℕ → ℕ
step_in from moment = last_step (job from.wave.now) moment

-- A bit of the wave, and its place.
abbrev pub IsBitIn : WaveLines → BoundBit → Type 0
IsBitIn from bit = IsBitOf from.wave.now.design (moment_count from) bit

abbrev pub told_place : WaveLines → BoundBit → Place
told_place from bit = place_in from.wave.now bit.moment bit.net

-- The line of a bit, and those of all bound bits.
abbrev pub line_of_bit : WaveLines → BoundBit → List ℕ
line_of_bit from bit = bound_line from.wave.now from.lines bit

abbrev pub lines_of_bits : WaveLines → Binding → List ℕ
lines_of_bits from bound = bit_lines from.wave.now bound from.lines

-- The lines of the bits of a moment, and that of one of these.
abbrev pub lines_here : MomentBits → List ℕ
lines_here here = moment_lines here.from.wave.now here.from.lines here.moment here.nets.now

abbrev pub line_here : MomentBits → ℕ → List ℕ
line_here here number =
    net_line here.from.wave.now here.from.lines here.moment (slice_index here.nets.now number)

-- Each of the bits is due, or has no line.
abbrev pub QuietHere : MomentBits → List ℕ → Type 0
QuietHere here due = QuietUnlessDue here.from.wave.now here.from.lines here.moment here.nets.now due

-- Each is due, or 0 or 1 is recorded of it. The same of the first so many.
abbrev pub KnownHere : MomentBits → List ℕ → Type 0
KnownHere here due = KnownUnlessDue here.from.wave.now here.nets.now (step_in here.from here.moment) due

abbrev pub KnownHereTo : MomentBits → ℕ → List ℕ → Type 0
KnownHereTo here to due = KnownUnlessDueTo here.from.wave.now here.nets.now (step_in here.from here.moment) to due
