-- Rows of values by moments.
use Rattle.std.specs.Prelude.{◌≡◌, ◌≢◌, ℕ, ◌-◌, ◌<◌, List, [], ◌∷◌, ◌++◌, length, replicate, slice_index_or, slice_set}
use Rattle.design_cell.specs.declared.value.Value.{Value}
use Rattle.design_cell.specs.declared.value.Value.TheVariants.{X}
use Rattle.base_ledger.specs.Change.{AreInWidth, change_position, nth_change}
use Rattle.base_ledger.specs.declared.change.Change.{Change}

-- The row of a moment, empty after the last one.
abbrev pub moment_row : List (List Value) → ℕ → List Value
moment_row rows moment = slice_index_or rows moment []

-- The row has so many values.
abbrev pub HasWidth : ℕ → List Value → Type 0
HasWidth width row = length row ≡ width

-- Each change is at another position.
abbrev pub AreElsewhere : List Change → ℕ → Type 0
AreElsewhere changes position = (i : ℕ) → i < length changes → change_position (nth_change changes i) ≢ position

-- Each change is at a net, and each net that has another value than in the moment before has one: a net that has none
-- has the same value in both.
pub record AreChanged (rows : List (List Value)) (moment : ℕ) (changes : List Change) : Type 0 where
  pub nets : AreInWidth (length (moment_row rows moment)) changes
  pub others : (net : ℕ) → net < length (moment_row rows moment) → AreElsewhere changes net
      → slice_index_or (moment_row rows moment) net X ≡ slice_index_or (moment_row rows (moment - 1)) net X

-- The rows of the moments before, and that of the moment under way.
pub record WrittenRows : Type 0 where
  pub before : List (List Value)
  pub row : List Value

-- The rows of all moments, with the one under way as the last.
abbrev pub all_rows : WrittenRows → List (List Value)
all_rows rows = rows.before ++ rows.row ∷ []

-- The first moment is under way, and each of so many nets has the value x.
abbrev pub new_rows : ℕ → WrittenRows
new_rows width = record { before = []; row = replicate width X }

-- In the moment under way a net has this value, and any other what it had.
abbrev pub with_value : WrittenRows → ℕ → Value → WrittenRows
with_value old net value = record { before = old.before; row = slice_set old.row net value }

-- The moment under way has these values.
abbrev pub with_values : WrittenRows → List Value → WrittenRows
with_values old row = record { before = old.before; row = row }

-- The moment under way is done, and a next one begins as it ends.
abbrev pub after_moment : WrittenRows → WrittenRows
after_moment old = record { before = all_rows old; row = old.row }
