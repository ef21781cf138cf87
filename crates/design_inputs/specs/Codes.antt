-- How rows of values are kept: as codes in the steps of a ledger.
use Rattle.std.specs.Prelude.{◌≡◌, ℕ, ◌==◌, All, List, if◌then◌else◌, length, map}
use Rattle.design_cell.specs.declared.value.Value.{Value}
use Rattle.design_cell.specs.declared.value.Value.TheVariants.{Zero, One, X, Z}
use Rattle.base_ledger.specs.Ledger.{LedgerStep, LedgerView}
use Rattle.design_inputs.specs.Rows.{WrittenRows}

-- The value that a code stands for.
abbrev pub value_of_code : ℕ → Value
value_of_code code = if code == 0 then Zero else if code == 1 then One else if code == 2 then X else Z

-- The rows of values that steps of codes stand for.
abbrev pub value_rows : List LedgerStep → List (List Value)
value_rows steps = map (λ (step : LedgerStep). map value_of_code step.row) steps

abbrev pub written_rows : LedgerView → WrittenRows
written_rows ledger = record { before = value_rows ledger.before; row = map value_of_code ledger.last.row }

-- The row of each step has so many codes.
abbrev pub AreWide : ℕ → List LedgerStep → Type 0
AreWide width steps = All (λ (step : LedgerStep). length step.row ≡ width) steps

-- So for the steps before and the one under way.
pub record IsWide (ledger : LedgerView) : Type 0 where
  pub before : AreWide ledger.width ledger.before
  pub last : length ledger.last.row ≡ ledger.width
