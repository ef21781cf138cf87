-- Which variables of a recording change in a moment.
use Rattle.std.specs.Prelude.{◌≡◌, ℕ, ◌-◌, ◌<◌, List, [], length, slice_index, slice_index_or, All}
use Rattle.recording_changes.specs.Held.{moments_of}
use Rattle.recording_reader.specs.Recording.{Recording, value_at}

-- the moments of a variable's changes
abbrev pub moments_at : Recording → ℕ → List ℕ
moments_at r variable = moments_of (slice_index_or r.changes variable [])

-- No change of the variable has this moment, so that each bit has the value of the moment before.
pub record IsQuiet (r : Recording) (variable moment : ℕ) : Type 0 where
  pub none : (i : ℕ) → i < length (moments_at r variable) → slice_index (moments_at r variable) i ≡ moment → ⊥
  pub same : (bit : ℕ) → 0 < moment → value_at r variable bit moment ≡ value_at r variable bit (moment - 1)

-- Variables by number, among them each that has a change in the moment: the others are quiet.
pub record AreChanged (r : Recording) (moment : ℕ) (variables : List ℕ) : Type 0 where
  pub known : All (λ variable. variable < length r.variables) variables
  pub has : (variable i : ℕ) → variable < length r.variables → i < length (moments_at r variable)
      → slice_index (moments_at r variable) i ≡ moment
      → (k : ℕ) × (k < length variables) × (slice_index variables k ≡ variable)
  pub others : (variable : ℕ) → variable < length r.variables
      → ((k : ℕ) → k < length variables → slice_index variables k ≡ variable → ⊥)
      → IsQuiet r variable moment
