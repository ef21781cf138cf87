-- The first places of a waveform, with the lines of the places among them.
use Rattle.std.specs.Prelude.{ℕ, ◌≤◌, List, length, nat_lt, take}
use Rattle.std.specs.List.{filter}
use Rattle.design_cell.specs.declared.value.Value.{Value}
use Rattle.design_circuit.specs.declared.waveform.Written.{Written}
use Rattle.design_circuit.specs.Job.{Job, number_of}
use Rattle.design_circuit.specs.Fits.{Fits}
use Rattle.law_model.specs.Growth.{Holds}
use Rattle.law_model.specs.Sound.{Sound}
use Rattle.law_model.specs.Yields.{Yields}
use Rattle.law_model.specs.declared.line.Line.{Line as ALine}
use Rattle.law_model.specs.declared.limits.Limits.{Limits}

-- The lines of places before a place, in their order.
abbrev pub lines_before : Job → ℕ → List ALine → List ALine
lines_before j n lines = filter (λ (line : ALine). nat_lt (number_of j line.place) n) lines

-- What holds of a waveform with its lines holds of its first n places with the lines of the places among them.
abbrev pub OfPrefixes : (Job → Limits → (ℕ → Value) → List Written → List ALine → Type 0) → Type 0
OfPrefixes Says = (j : Job) (limits : Limits) (shown : ℕ → Value) (waveform : List Written) (lines : List ALine) (n : ℕ)
    → Fits j → n ≤ length waveform → Says j limits shown waveform lines
    → Says j limits shown (take n waveform) (lines_before j n lines)

-- That lines yield it,
abbrev pub YieldsPrefixLaw : Type 0
YieldsPrefixLaw = OfPrefixes Yields

-- that it is sound,
abbrev pub SoundPrefixLaw : Type 0
SoundPrefixLaw = OfPrefixes Sound

-- and so both.
abbrev pub PrefixLaw : Type 0
PrefixLaw = OfPrefixes Holds
