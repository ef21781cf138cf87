-- The bytes of places, row after row of one width.
use Rattle.std.specs.Prelude.{◌≡◌, ◌⊎◌, ℕ, ◌+◌, ◌-◌, ◌*◌, ◌/◌, ◌%◌, ◌<◌, ◌≤◌, ◌^◌, ◌==◌, ◌&&◌, Bool, List, [], ◌∷◌}
use Rattle.std.specs.Prelude.{◌++◌, drop, length, map, nat_lt, slice_index_or, take, if◌then◌else◌}
use Rattle.std.specs.List.{range_with_len}
use Rattle.wave_bytes.specs.Anew.{anew_byte, anew_number, nth_anew, number_behind, number_next}
use Rattle.wave_bytes.specs.Byte.{copied_byte, repeated_byte}
use Rattle.wave_bytes.specs.Track.{byte_at, nth_entry}
use Rattle.wave_bytes.specs.declared.anew.Anew.{Anew}
use Rattle.wave_bytes.specs.declared.front.Front.{Front}
use Rattle.wave_bytes.specs.declared.track.Entry.{Entry}

-- How wide a row is, how many rows there is room for, for each position the one that it copies, itself if it copies
-- none, and the bytes so far.
pub record RowsView : Type 0 where
  pub width : ℕ
  pub steps : ℕ
  pub roots : List ℕ
  pub bytes : List ℕ

-- What a position copies stands at it or before it, and copies nothing.
abbrev pub nth_root : List ℕ → ℕ → ℕ
nth_root roots position = slice_index_or roots position position

pub record AreRoots (width : ℕ) (roots : List ℕ) : Type 0 where
  pub long : length roots ≡ width
  pub low : (position : ℕ) → position < width → nth_root roots position ≤ position
  pub root : (position : ℕ) → position < width
      → nth_root roots (nth_root roots position) ≡ nth_root roots position

-- The place in its row of what a place's position copies.
abbrev pub root_place : ℕ → List ℕ → ℕ → ℕ
root_place width roots place = place / width * width + nth_root roots (place % width)

-- The position of the next place copies nothing, or another one; and the byte of that place as a copy.
abbrev pub IsOwnNext : RowsView → Type 0
IsOwnNext v = root_place v.width v.roots (length v.bytes) ≡ length v.bytes

abbrev pub IsCopyNext : RowsView → Type 0
IsCopyNext v = root_place v.width v.roots (length v.bytes) < length v.bytes

abbrev pub copied_next : RowsView → ℕ
copied_next v = copied_byte (slice_index_or v.bytes (root_place v.width v.roots (length v.bytes)) 0)

-- There is room for so many places more.
abbrev pub HasRoom : RowsView → ℕ → Type 0
HasRoom v many = length v.bytes + many ≤ v.steps * v.width

-- So many places more stand in one row, behind the first row.
pub record IsRowStretch (v : RowsView) (many : ℕ) : Type 0 where
  pub later : v.width ≤ length v.bytes
  pub room : HasRoom v many
  pub one_row : length v.bytes + many ≤ (length v.bytes / v.width + 1) * v.width

-- With a byte more.
abbrev pub and_byte : RowsView → ℕ → RowsView
and_byte v byte = record v { bytes = v.bytes ++ byte ∷ [] }

-- With so many bytes more, each that of its position a row before, written again.
abbrev pub and_again : RowsView → ℕ → RowsView
and_again v many =
    record v { bytes = v.bytes ++ map repeated_byte (take many (drop (length v.bytes - v.width) v.bytes)) }

-- What is copied in a stretch of so many places more, of places that are there, has the byte of a row before as a copy,
-- written again.
abbrev pub IsCopiedAgain : List ℕ → ℕ → ℕ → Type 0
IsCopiedAgain bytes width from =
    copied_byte (slice_index_or bytes from 0) ≡ repeated_byte (copied_byte (slice_index_or bytes (from - width) 0))

abbrev pub AreCopiedAgain : RowsView → ℕ → Type 0
AreCopiedAgain v many = (place : ℕ) → length v.bytes ≤ place → place < length v.bytes + many
    → root_place v.width v.roots place < length v.bytes
    → IsCopiedAgain v.bytes v.width (root_place v.width v.roots place)

-- The byte at a position of a step, by the entries of each position: that of a copy by those of what it copies.
abbrev pub nth_track : List (List Entry) → ℕ → List Entry
nth_track tracks position = slice_index_or tracks position []

abbrev pub byte_by : List (List Entry) → ℕ → ℕ → ℕ → ℕ
byte_by tracks position root step =
    if root == position then byte_at (nth_track tracks root) step
    else copied_byte (byte_at (nth_track tracks root) step)

abbrev pub byte_there : ℕ → List ℕ → List (List Entry) → ℕ → ℕ
byte_there width roots tracks place =
    byte_by tracks (place % width) (nth_root roots (place % width)) (place / width)

-- A byte there is the one a step before, written again.
abbrev pub is_again_by : List (List Entry) → ℕ → ℕ → ℕ → ℕ → Bool
is_again_by tracks position root step byte =
    nat_lt 0 step && (byte == repeated_byte (byte_by tracks position root (step - 1)))

-- Those of the first places.
unfoldable pub bytes_in : ℕ → List ℕ → List (List Entry) → ℕ → List ℕ
bytes_in width roots tracks count = map (byte_there width roots tracks) (range_with_len 0 count)

abbrev pub rows_of : ℕ → ℕ → List ℕ → List (List Entry) → ℕ → RowsView
rows_of width steps roots tracks count =
    record { width = width; steps = steps; roots = roots; bytes = bytes_in width roots tracks count }

-- The place behind so many stands there.
pub record IsFrontOf (width count : ℕ) (front : Front) : Type 0 where
  pub whole : front.step * width + front.position ≡ count
  pub inside : front.position ≤ width - 1

-- Entries are those of places below a number.
abbrev pub AreBelow : ℕ → ℕ → List (List Entry) → Type 0
AreBelow width count tracks =
    (position i : ℕ) → position < width → i < length (nth_track tracks position)
    → (nth_entry (nth_track tracks position) i).step * width + position < count

-- What rows hold.
pub record AreRows (width steps count : ℕ) (front : Front) (roots : List ℕ) (tracks : List (List Entry)) : Type 0 where
  pub narrow : width ≤ 2 ^ 32
  pub few : steps ≤ 2 ^ 32
  pub small : steps * width ≤ 2 ^ 40
  pub room : count ≤ steps * width
  pub at : IsFrontOf width count front
  pub step : front.step ≤ steps
  pub rooted : AreRoots width roots
  pub long : length tracks ≡ width
  pub below : AreBelow width count tracks

-- The places that are written anew are noted, in place order and with their bytes: any other behind the first row has
-- the byte of its position a row before, written again.
abbrev pub IsNoted : List Anew → ℕ → Type 0
IsNoted log place = (k : ℕ) × (k < length log) × (anew_number (nth_anew log k) ≡ place)

abbrev pub IsWrittenAgain : ℕ → List ℕ → List (List Entry) → ℕ → Type 0
IsWrittenAgain width roots tracks place =
    byte_there width roots tracks place ≡ repeated_byte (byte_there width roots tracks (place - width))

pub record AreNoted (width count : ℕ) (roots : List ℕ) (tracks : List (List Entry)) (log : List Anew) : Type 0 where
  pub rising : (i k : ℕ) → i < k → k < length log → anew_number (nth_anew log i) < anew_number (nth_anew log k)
  pub reached : (i : ℕ) → i < length log → anew_number (nth_anew log i) < count
  pub bytes : (i : ℕ) → i < length log
      → anew_byte (nth_anew log i) ≡ byte_there width roots tracks (anew_number (nth_anew log i))
  pub noted : (place : ℕ) → width ≤ place → place < count → IsNoted log place ⊎ IsWrittenAgain width roots tracks place

-- The bytes of the places from a number up to another are those a row before, written again.
abbrev pub AreAgain : RowsView → ℕ → ℕ → Type 0
AreAgain v from to = (place : ℕ) → from ≤ place → place < to → v.width ≤ place
    → slice_index_or v.bytes place 0 ≡ repeated_byte (slice_index_or v.bytes (place - v.width) 0)

-- The places from a number on, below an end, that are written anew, in place order and with their bytes.
pub record AreAnewBetween (v : RowsView) (from end : ℕ) (places : List Anew) : Type 0 where
  pub inside : (i : ℕ) → i < length places → anew_number (nth_anew places i) < end
  pub rising : (i : ℕ) → i < length places → number_behind from places i ≤ anew_number (nth_anew places i)
  pub bytes : (i : ℕ) → i < length places
      → anew_byte (nth_anew places i) ≡ slice_index_or v.bytes (anew_number (nth_anew places i)) 0
  pub between : (i : ℕ) → i ≤ length places
      → AreAgain v (number_behind from places i) (number_next end places i)
