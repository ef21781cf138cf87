-- A position and a payload in a word.
use Rattle.std.specs.Prelude.{ℕ, ◌+◌, ◌*◌, ◌/◌, ◌%◌, ◌<◌, List, length, slice_index_or}
use Rattle.base_ledger.specs.declared.change.Change.{Change}

abbrev pub packed_change : ℕ → ℕ → Change
packed_change position payload = record { word = position * 256 + payload }

abbrev pub change_position : Change → ℕ
change_position change = change.word / 256

abbrev pub change_payload : Change → ℕ
change_payload change = change.word % 256

abbrev pub no_change : Change
no_change = record { word = 0 }

abbrev pub nth_change : List Change → ℕ → Change
nth_change changes i = slice_index_or changes i no_change

-- The positions of changes are among the first ones.
abbrev pub AreInWidth : ℕ → List Change → Type 0
AreInWidth width changes = (i : ℕ) → i < length changes → change_position (nth_change changes i) < width
