-- How many bits each source is to blame for.
use Rattle.std.specs.Prelude.{◌≡◌, ◌⊎◌, ℕ, ◌<◌, ◌==◌, List, All, count_by, length, map, nat_lt, sum_by}
use Rattle.std.specs.List.{AllAdjacentBelow, AllByRecursion}
use Rattle.design_circuit.specs.declared.place.Place.{Place}
use Rattle.design_circuit.specs.Filling.{IsPlace}
use Rattle.design_circuit.specs.Job.{Job, number_of}
use Rattle.report_bits.specs.Counts.{one_if}
use Rattle.report_blame.specs.declared.bits.Blamed.{Blamed}

-- A source, and the number of its bits.
abbrev pub Row : Type 0
Row = Place × ℕ

abbrev pub source_numbers : Job → List Blamed → List ℕ
source_numbers j bits = map (λ (b : Blamed). number_of j b.source) bits

-- How many bits have a place as their source, and how many rows are for a place.
abbrev pub bits_of : Job → List Blamed → Place → ℕ
bits_of j bits place = count_by (λ (b : Blamed). number_of j b.source == number_of j place) bits

abbrev pub rows_of : Job → List Row → Place → ℕ
rows_of j table place = count_by (λ (row : Row). number_of j row.0 == number_of j place) table

-- A row with a greater number comes before another, or one with an equal number and an earlier place.
abbrev pub ComesBefore : Job → Row → Row → Type 0
ComesBefore j row other =
    (other.1 < row.1) ⊎ ((row.1 ≡ other.1) × (number_of j row.0 < number_of j other.0))

-- Each place that is the source of bits has one row, and no other has one. The greatest number comes first, then the
-- place order decides. The numbers add up to that of all bits.
pub record IsBlameTable (j : Job) (bits : List Blamed) (table : List Row) : Type 0 where
  pub places : AllByRecursion (λ (row : Row). IsPlace j row.0) table
  pub numbers : All (λ (row : Row). row.1 ≡ bits_of j bits row.0) table
  pub rows : (place : Place) → rows_of j table place ≡ one_if (nat_lt 0 (bits_of j bits place))
  pub order : AllAdjacentBelow (ComesBefore j) table (length table)
  pub total : sum_by (λ (row : Row). row.1) table ≡ length bits
