-- How often each number stands in a list.
use Rattle.std.specs.Prelude.{◌≡◌, ◌≢◌, ℕ, ◌<◌, ◌≤◌, ◌==◌, List, All, count_by, length, nat_lt, slice_index, sum_by}
use Rattle.std.specs.declared.cmp.Reverse.{Reverse}
use Rattle.design_circuit.specs.declared.place.Place.{Place}
use Rattle.design_circuit.specs.Fits.{place_at}
use Rattle.design_circuit.specs.Job.{Job}
use Rattle.report_bits.specs.Counts.{one_if}

-- A count, to be sorted the greatest first, and its number.
abbrev pub Counted : Type 0
Counted = Reverse ℕ × ℕ

abbrev pub count_in : List ℕ → ℕ → ℕ
count_in xs n = count_by (λ (x : ℕ). x == n) xs

abbrev pub rows_for : List Counted → ℕ → ℕ
rows_for rows n = count_by (λ (row : Counted). row.1 == n) rows

-- Each number that stands there has one row, with its count, and no other has one.
pub record IsTally (xs : List ℕ) (rows : List Counted) : Type 0 where
  pub counts : All (λ (row : Counted). row.0.0 ≡ count_in xs row.1) rows
  pub some : All (λ (row : Counted). 0 < row.0.0) rows
  pub once : (n : ℕ) → rows_for rows n ≡ one_if (nat_lt 0 (count_in xs n))
  pub total : sum_by (λ (row : Counted). row.0.0) rows ≡ length xs

-- From one index up to another all numbers are equal, and the next is another.
pub record IsRun (xs : List ℕ) (first end : ℕ) : Type 0 where
  pub some : first < end
  pub within : end ≤ length xs
  pub same : (k : ℕ) → first ≤ k → k < end → slice_index xs k ≡ slice_index xs first
  pub apart : end < length xs → slice_index xs end ≢ slice_index xs first

-- A row with its number as a place.
abbrev pub row_at : Job → Counted → Place × ℕ
row_at j row = (place_at j row.1, row.0.0)
