-- A place of a waveform in a byte.
use Rattle.std.specs.Prelude.{ℕ, ◌+◌, ◌*◌, ◌/◌, ◌%◌, ◌==◌, Bool, true, false, List, slice_index_or, if◌then◌else◌}
use Rattle.design_circuit.specs.declared.waveform.Mark.{Mark}
use Rattle.design_circuit.specs.declared.waveform.Mark.TheVariants.{Certain, Unknown, Undecided}
use Rattle.design_circuit.specs.declared.waveform.Written.{Written}
use Rattle.design_circuit.specs.History.{two_bits, value_of_bits}
use Rattle.law_quiet.specs.OfClass.{Facts, facts}

-- Its value is in the low two bits, its mark in the next two, and behind them a bit each says whether its class is
-- Carried from the step before as it is, whether it is Local or Free, whether its net keeps there, and whether it is
-- Line.
abbrev pub mark_of_bits : ℕ → Mark
mark_of_bits bits = if bits == 0 then Certain else if bits == 1 then Unknown else Undecided

abbrev pub two_bits_of_mark : Mark → ℕ
two_bits_of_mark Certain = 0
two_bits_of_mark Unknown = 1
two_bits_of_mark Undecided = 2

abbrev pub written_of_byte : ℕ → Written
written_of_byte byte = record { value = value_of_bits (byte % 4); mark = mark_of_bits (byte / 4 % 4) }

abbrev pub facts_of_byte : ℕ → Facts
facts_of_byte byte = facts (byte / 16 % 2 == 1) (byte / 32 % 2 == 1) (byte / 128 % 2 == 1) (byte / 64 % 2 == 1)

-- A mark other than Certain.
abbrev pub is_uncertain : Mark → Bool
is_uncertain Certain = false
is_uncertain Unknown = true
is_uncertain Undecided = true

-- The byte of a place that has what its net's place a step before has, whose byte is given. It says the same value and
-- mark, that its net keeps, and that it is Carried from there unless it is certain: then its class is left open.
abbrev pub repeated_byte : ℕ → ℕ
repeated_byte byte = byte % 16 + (if is_uncertain (written_of_byte byte).mark then 80 else 64)

-- The byte of a copy, by that of what it copies at its step. It says the same value and mark, whether its net keeps, and
-- that it is Carried from the step before where it keeps and isn't certain: else its class is left open.
abbrev pub low_byte : Written → ℕ
low_byte written = two_bits written.value + 4 * two_bits_of_mark written.mark

abbrev pub copied_byte : ℕ → ℕ
copied_byte byte =
    if (facts_of_byte byte).keeps then repeated_byte (low_byte (written_of_byte byte))
    else low_byte (written_of_byte byte)

-- What the bytes of places say of one of them.
abbrev pub facts_in : List ℕ → ℕ → Facts
facts_in bytes place = facts_of_byte (slice_index_or bytes place 0)
