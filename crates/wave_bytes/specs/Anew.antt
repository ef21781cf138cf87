-- Places that were written anew, each by its number and its byte in a word.
use Rattle.std.specs.Prelude.{ℕ, ◌+◌, ◌-◌, ◌/◌, ◌%◌, ◌==◌, List, length, nat_lt, slice_index_or, if◌then◌else◌}
use Rattle.design_circuit.specs.declared.waveform.Written.{Written}
use Rattle.wave_bytes.specs.Byte.{written_of_byte}
use Rattle.wave_bytes.specs.declared.anew.Anew.{Anew}

abbrev pub anew_number : Anew → ℕ
anew_number place = place.word / 256

abbrev pub anew_byte : Anew → ℕ
anew_byte place = place.word % 256

-- What stands there.
abbrev pub anew_written : Anew → Written
anew_written place = written_of_byte (anew_byte place)

abbrev pub no_anew : Anew
no_anew = record { word = 0 }

abbrev pub nth_anew : List Anew → ℕ → Anew
nth_anew places i = slice_index_or places i no_anew

-- The number behind the first so many of places from a number on.
abbrev pub number_behind : ℕ → List Anew → ℕ → ℕ
number_behind number places i = if i == 0 then number else anew_number (nth_anew places (i - 1)) + 1

-- The number of the place behind the first so many, or the end.
abbrev pub number_next : ℕ → List Anew → ℕ → ℕ
number_next end places i = if nat_lt i (length places) then anew_number (nth_anew places i) else end
