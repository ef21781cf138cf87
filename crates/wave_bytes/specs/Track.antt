-- The bytes of a position at the steps, by the entries of those at which they are written anew.
use Rattle.std.specs.Prelude.{◌≡◌, ℕ, ◌-◌, ◌<◌, ◌==◌, ◌&&◌, Bool, List, [], ◌∷◌, ◌++◌, length, nat_le, nat_lt}
use Rattle.std.specs.Prelude.{slice_index_or}
use Rattle.std.specs.Prelude.{if◌then◌else◌}
use Rattle.wave_bytes.specs.Byte.{repeated_byte}
use Rattle.wave_bytes.specs.declared.anew.Anew.{Anew}
use Rattle.wave_bytes.specs.declared.track.Entry.{Entry}

abbrev pub no_entry : Entry
no_entry = record { step = 0; byte = 0 }

abbrev pub nth_entry : List Entry → ℕ → Entry
nth_entry entries i = slice_index_or entries i no_entry

-- The byte that an entry gives at a step from its own on: its own at its own step, later that one written again.
abbrev pub byte_from : Entry → ℕ → ℕ
byte_from entry step = if entry.step == step then entry.byte else repeated_byte entry.byte

-- The byte at a step: that which the last of the entries up to it gives, or another one where there is none.
abbrev pub byte_after : ℕ → List Entry → ℕ → ℕ
byte_after byte [] step = byte
byte_after byte (entry ∷ entries) step =
    byte_after (if nat_le entry.step step then byte_from entry step else byte) entries step

-- Where there is none it is a byte that is written again as it is.
abbrev pub still_byte : ℕ
still_byte = 64

abbrev pub byte_at : List Entry → ℕ → ℕ
byte_at entries step = byte_after still_byte entries step

-- The steps of entries ascend.
abbrev pub AreAscending : List Entry → Type 0
AreAscending entries =
    (i k : ℕ) → i < k → k < length entries → (nth_entry entries i).step < (nth_entry entries k).step

-- An entry is the last of some, where there is any.
abbrev pub IsLast : List Entry → Entry → Type 0
IsLast entries last = 0 < length entries → last ≡ nth_entry entries (length entries - 1)

-- They lie before a step.
abbrev pub AreBefore : List Entry → ℕ → Type 0
AreBefore entries step = (i : ℕ) → i < length entries → (nth_entry entries i).step < step

-- A byte at a step is the one a step before, written again.
abbrev pub is_again : List Entry → ℕ → ℕ → Bool
is_again entries step byte = nat_lt 0 step && (byte == repeated_byte (byte_at entries (step - 1)))

-- Entries, with the byte of a step behind them: there is no entry for one that is written again.
abbrev pub with_byte_at : List Entry → ℕ → ℕ → List Entry
with_byte_at entries step byte =
    if is_again entries step byte then entries else entries ++ (record { step = step; byte = byte }) ∷ []

-- Places that are written anew, with one more behind them, unless it is written again.
abbrev pub with_noted : List Anew → Anew → Bool → List Anew
with_noted log place again = if again then log else log ++ place ∷ []
