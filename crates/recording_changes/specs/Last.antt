-- What a value means: it is that of the last change in its moment or before (IEEE 1364-2005, clause 18).
use Rattle.std.specs.Prelude.{◌≡◌, ℕ, ◌<◌, ◌≤◌, List, ◌∷◌, ◌++◌, All, slice_index}
use Rattle.design_cell.specs.declared.value.Value.{Value}
use Rattle.design_cell.specs.declared.value.Value.TheVariants.{X}
use Rattle.recording_changes.specs.Held.{Change, digit_value, extended}

-- It comes in the moment or before it, and each change after it comes after the moment.
pub record IsLastChange (moment : ℕ) (changes : List Change) (c : Change) : Type 0 where
  pub front : List Change
  pub rest : List Change
  pub split : changes ≡ front ++ c ∷ rest
  pub before : c.moment ≤ moment
  pub after : All (λ (d : Change). moment < d.moment) rest

-- The value of a bit in a moment is that of the last change in it or before, and x before any change.
pub record IsLastValue (changes : List Change) (width bit moment : ℕ) (value : Value) : Type 0 where
  pub last : (c : Change) → IsLastChange moment changes c → value
      ≡ digit_value (slice_index (extended width c.digits) bit)
  pub before_any : All (λ (d : Change). moment < d.moment) changes → value ≡ X
