-- The tables of a finished ledger.
use Rattle.std.specs.Prelude.{ℕ, List, map}
use Rattle.base_sort.specs.Sorted.{IsSortedBy, SortedView}
use Rattle.base_ledger.specs.Change.{AreInWidth, change_position}
use Rattle.base_ledger.specs.Ledger.{AreBounds}
use Rattle.base_ledger.specs.declared.change.Change.{Change}

-- The steps lie between bounds, and the changes are sorted by their positions.
pub record IsIndexOf (width : ℕ) (changes : List Change) (starts : List ℕ) (sorted : SortedView) : Type 0 where
  pub inside : AreInWidth width changes
  pub bounds : AreBounds changes starts
  pub parts : IsSortedBy width (map change_position changes) sorted
