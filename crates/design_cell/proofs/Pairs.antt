-- Rows in conflict, either way round.
use Rattle.std.proofs.Common.{◌≡◌, ℕ, ◌<◌, ◌&&◌, Bool, true, false, List, length, refl, sym, ap, ◌∙◌, inl, inr}
use Rattle.std.proofs.lemmas.Bool.{cases_lt}
use Rattle.design_cell.specs.declared.row.RawRow.{RawRow}
use Rattle.design_cell.specs.Below.{any_below}
use Rattle.design_cell.specs.Symbol.{fits, output_of}
use Rattle.design_cell.specs.Row.{symbol_at, nowhere, row_at, before}
use Rattle.design_cell.specs.Conflict.{AreInConflict}
use Rattle.design_cell.specs.Index.{value_of}
use Rattle.design_cell.specs.Meeting.{part_at, same_kind, meet_below, is_conflict}
use Rattle.design_cell.proofs.Masks.{nowhere_fits, beyond}
use Rattle.design_cell.proofs.Firsts.{matches_nowhere}
use Rattle.design_cell.proofs.Conflicts.{and_false}

pub symmetric : (n : ℕ) (r s : RawRow) → AreInConflict n r s → AreInConflict n s r
symmetric n r s case = record {
  changed = case.changed;
  new = case.new;
  pin = case.pin;
  kind = sym case.kind;
  first = case.second;
  second = case.first;
  apart = λ e. case.apart (sym e);
}

pub irreflexive : (n : ℕ) (r s : RawRow) → r ≡ s → AreInConflict n r s → ⊥
irreflexive n r s e case = case.apart (ap (λ (row : RawRow). output_of row.output (case.new n)) e)

-- a row in conflict is one of the rows
pub has_row : (n : ℕ) (rows : List RawRow) (r : RawRow) (k : ℕ) → AreInConflict n r (row_at rows k) → k < length rows
has_row n rows r k case = elim (cases_lt k (length rows)) as (λ _. k < length rows) [
  | inl h ↦ h
  | inr h ↦ absurd (
      let e = beyond rows k h in
      let f = case.second in
      let g = rw e at f in
      let no : true ≡ false = sym g ∙ matches_nowhere n (before case.changed case.new) case.new in
      cc)
]

any_none : (test : ℕ → Bool) → ((k : ℕ) → test k ≡ false) → any_below 3 test ≡ false
any_none test none = rw (none 0, none 1, none 2) refl

-- the row behind the last one is in no conflict
pub conflict_nowhere : (n : ℕ) (row : RawRow) → is_conflict n row nowhere ≡ false
unfolding is_conflict part_at
conflict_nowhere n row =
    let none : (k : ℕ) → part_at n row nowhere k ≡ false = λ k. (let e : fits (symbol_at nowhere n) (value_of k) (value_of k) ≡ false = nowhere_fits n (value_of k) (value_of k) in rw e (and_false (fits (symbol_at row n) (value_of k) (value_of k)))) in
    let e : any_below 3 (part_at n row nowhere) ≡ false = any_none (part_at n row nowhere) none in
    ap (λ b. same_kind row nowhere && b && meet_below n row nowhere) e ∙ ap (λ b. b && meet_below n row nowhere) (and_false (same_kind row nowhere))
