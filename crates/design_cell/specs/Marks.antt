-- The words of cases that a row meets and marks. No contract of a public call names these.
use Rattle.std.specs.Prelude.{◌+◌, ◌%◌, ◌||◌, ℕ, ◌==◌, ◌&&◌, Bool, not, List, slice_index}
use Rattle.std.specs.Int.Bits.{bit_and}
use Rattle.design_cell.specs.declared.taken.Taken.{Taken}
use Rattle.design_cell.specs.Below.{any_below}
use Rattle.design_cell.specs.Digits.{digit, four, has, middle_end, high_end, place}

unfoldable pub meets_output : Taken → List ℕ → ℕ → Bool
meets_output taken seen p = not (bit_and (slice_index seen p) taken.low == 0)

-- a case is marked for one of the two other outputs
unfoldable pub meets_word : Taken → List ℕ → ℕ → ℕ → Bool
meets_word taken seen high middle =
    meets_output taken seen (place high middle ((taken.output + 1) % 3))
    || meets_output taken seen (place high middle ((taken.output + 2) % 3))

unfoldable pub meets_middle : Taken → List ℕ → ℕ → ℕ → Bool
meets_middle taken seen high middle = has taken.middle middle && meets_word taken seen high middle

abbrev pub meets_middles : Taken → List ℕ → ℕ → Bool
meets_middles taken seen high = any_below (middle_end taken.inputs) (meets_middle taken seen high)

unfoldable pub meets_high : Taken → List ℕ → ℕ → Bool
meets_high taken seen high = four (digit taken.digits) high && meets_middles taken seen high

-- a case of a row is marked for another output
unfoldable pub meets : Taken → List ℕ → Bool
meets taken seen = any_below (high_end taken.inputs) (meets_high taken seen)

unfoldable pub covers_middle : Taken → ℕ → ℕ → ℕ → Bool
covers_middle taken p high middle = has taken.middle middle && (p == place high middle taken.output)

abbrev pub covers_middles : Taken → ℕ → ℕ → Bool
covers_middles taken p high = any_below (middle_end taken.inputs) (covers_middle taken p high)

unfoldable pub covers_high : Taken → ℕ → ℕ → Bool
covers_high taken p high = four (digit taken.digits) high && covers_middles taken p high

-- the place is that of a word of a row's cases and its output
unfoldable pub covers : Taken → ℕ → Bool
covers taken p = any_below (high_end taken.inputs) (covers_high taken p)
