-- What a code holds in a moment (IEEE 1364-2005, clause 18).
use Rattle.std.specs.Prelude.{ℕ, ◌-◌, List, [], ◌∷◌, ◌++◌, length, if◌then◌else◌, nat_le, ◌==◌, ◌||◌, slice_index}
use Rattle.std.specs.Prelude.{slice_index_or, slice_set, replicate, map}
use Rattle.design_cell.specs.declared.value.Value.{Value}
use Rattle.design_cell.specs.declared.value.Value.TheVariants.{Zero, One, X, Z}

-- A change: in this moment the code takes these digits, bytes of `0 1 x X z Z` as they stand in the text.
pub record Change : Type 0 where
  pub moment : ℕ
  pub digits : List ℕ

abbrev pub change : ℕ → List ℕ → Change
change moment digits = record { moment = moment; digits = digits }

-- the moment of each change
abbrev pub moments_of : List Change → List ℕ
moments_of changes = map (λ (c : Change). c.moment) changes

-- What a code holds in a moment, where it held `had` before its changes: the digits of its last change in the moment or
-- before it.
abbrev pub held : ℕ → List Change → List ℕ → List ℕ
held moment [] had = had
held moment (c ∷ cs) had = held moment cs (if nat_le c.moment moment then c.digits else had)

-- The digit that fills on the left: 0 before 1, else the first digit itself.
abbrev pub fill_of : ℕ → ℕ
fill_of digit = if digit == 49 then 48 else digit

-- Digits extended on the left to a width: 0 and 1 by 0, x by x, z by z.
abbrev pub extended : ℕ → List ℕ → List ℕ
extended width digits = replicate (width - length digits) (fill_of (slice_index digits 0)) ++ digits

-- The value that a digit stands for.
abbrev pub digit_value : ℕ → Value
digit_value digit =
    if digit == 48 then Zero else if digit == 49 then One else if (digit == 120) || (digit == 88) then X else Z

-- Before any change a code is x in every bit.
abbrev pub unknown : List ℕ
unknown = 120 ∷ []

-- The value of a bit, counted from the left, of a code of this width with these changes, in a moment.
abbrev pub bit_value : List Change → ℕ → ℕ → ℕ → Value
bit_value changes width bit moment = digit_value (slice_index (extended width (held moment changes unknown)) bit)

-- The changes of each code in the order of the text, and a moment that none of them comes after.
pub record History : Type 0 where
  pub moment : ℕ
  pub tracks : List (List Change)

-- the changes of the code with this number
abbrev pub track_of : List (List Change) → ℕ → List Change
track_of tracks code = slice_index_or tracks code []

-- with a change of the code after those that it had
abbrev pub with_change : List (List Change) → ℕ → Change → List (List Change)
with_change tracks code c = slice_set tracks code (track_of tracks code ++ c ∷ [])

-- the same for a history, whose last moment is then that of the change
abbrev pub with_last : History → ℕ → Change → History
with_last h code c = record { moment = c.moment; tracks = with_change h.tracks code c }
