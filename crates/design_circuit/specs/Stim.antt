-- When a stimulus fits a design.
use Rattle.std.specs.Prelude.{◌≡◌, ◌<◌, ◌≤◌, ◌*◌, ◌^◌, ℕ, [], length, slice_index_or}
use Rattle.std.specs.List.Sorted.{IsStrictlyIncreasing}
use Rattle.design_cell.specs.declared.value.Value.TheVariants.{X, Z}
use Rattle.design_circuit.specs.declared.design.Design.{Design}
use Rattle.design_circuit.specs.declared.stim.Stim.{Stim}

-- The times ascend, each moment has a value for each net, each net has a start that isn't z, and there are at most 2^40
-- places. That there are 1 to 16 rounds and a row for each moment is always true of a stimulus.
pub record FitsStim (design : Design) (stim : Stim) : Type 0 where
  pub times : IsStrictlyIncreasing stim.times
  pub values : (moment : ℕ) → moment < length stim.inputs → length (slice_index_or stim.inputs moment [])
      ≡ length design.nets
  pub starts : length stim.starts ≡ length design.nets
  pub no_float : (net : ℕ) → slice_index_or stim.starts net X ≡ Z → ⊥
  pub places : length design.nets * (length stim.times * stim.rounds) ≤ 2 ^ 40
