-- The literals of the last places, row after row.
use Rattle.std.specs.Prelude.{◌≡◌, ◌⊎◌, ℕ, ◌+◌, ◌-◌, ◌*◌, ◌<◌, ◌≤◌, ◌^◌, ◌++◌, ◌∷◌, [], List, drop, length, slice_index}
use Rattle.std.specs.Prelude.{slice_index_or, take}
use Rattle.decide_lane_nodes.specs.Literal.{LiteralView, no_literal}
use Rattle.decide_lane_nodes.specs.declared.rows.Kept.{Kept}

-- How wide a row is, and the literals of the places from the first of a row on.
pub record RowsView : Type 0 where
  pub width : ℕ
  pub literals : List LiteralView

abbrev pub nth_literal : List LiteralView → ℕ → LiteralView
nth_literal row position = slice_index_or row position no_literal

-- Two rows have the same literals but at those of some positions that stand from a number on.
abbrev pub AgreeBut : List LiteralView → List LiteralView → List ℕ → ℕ → Type 0
AgreeBut before row moved from =
    (position : ℕ) → ((i : ℕ) → from ≤ i → i < length moved → slice_index moved i ≡ position → ⊥)
    → nth_literal before position ≡ nth_literal row position

-- A row stands behind another one, and has moved at some positions.
pub record Follows (before row : List LiteralView) (moved : List ℕ) : Type 0 where
  pub long : length before ≡ length row
  pub inside : (i : ℕ) → i < length moved → slice_index moved i < length row
  pub agree : AgreeBut before row moved 0

pub record AreKept (width : ℕ) (kept : Kept) : Type 0 where
  pub long : length kept.row.items ≡ width
  pub two : Follows kept.three.items kept.two.items kept.moved_two.items
  pub one : Follows kept.two.items kept.one.items kept.moved_one.items
  pub row : Follows kept.one.items kept.row.items kept.moved.items

-- What is kept once the row under way is whole.
pub record IsTurned (old new : Kept) : Type 0 where
  pub three : new.three.items ≡ old.two.items
  pub two : new.two.items ≡ old.one.items
  pub one : new.one.items ≡ old.row.items
  pub row : new.row.items ≡ old.row.items
  pub moved : new.moved.items ≡ []
  pub kept : AreKept (length old.row.items) new

-- All rows, the one under way up to a position.
abbrev pub all_of : Kept → ℕ → List LiteralView
all_of kept position = kept.three.items ++ kept.two.items ++ kept.one.items ++ take position kept.row.items

-- Of them the whole ones and the one under way.
abbrev pub rows_of : ℕ → ℕ → ℕ → Kept → RowsView
rows_of width whole position kept =
    record { width = width; literals = drop ((3 - whole) * width) (all_of kept position) }

pub record AreRows (width whole position : ℕ) (rows : Kept) : Type 0 where
  pub some : 0 < width
  pub small : width ≤ 2 ^ 32
  pub few : whole ≤ 3
  pub inside : position < width
  pub kept : AreKept width rows
  pub below : (i : ℕ) → i < length rows.moved.items → slice_index rows.moved.items i < position

-- A literal is put at a position of a row, which has moved there where it was another one.
abbrev pub IsMoved : List LiteralView → ℕ → LiteralView → List ℕ → List ℕ → Type 0
IsMoved row position literal old new =
    ((nth_literal row position ≡ literal) × (new ≡ old)) ⊎ (new ≡ old ++ position ∷ [])

-- So many literals as a row before.
abbrev pub last_row : RowsView → ℕ → List LiteralView
last_row v many = take many (drop (length v.literals - v.width) v.literals)

-- Literals came in, and so many of the first ones went: all but those of three rows, or none.
pub record IsOnward (old new : RowsView) (more : List LiteralView) (gone : ℕ) : Type 0 where
  pub width : new.width ≡ old.width
  pub literals : new.literals ≡ drop gone (old.literals ++ more)
  pub enough : 0 < gone → gone + 3 * old.width ≡ length (old.literals ++ more)
