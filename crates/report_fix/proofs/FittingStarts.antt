-- A stimulus with set starts fits, and only its unknown starts are set.
use Rattle.std.proofs.Common.{◌≡◌, ◌⊎◌, ℕ, zero, suc, ◌+◌, Bool, true, false, Option, None, Some, List, [], ◌∷◌, length, refl, sym, ap, ◌∙◌, subst, arith, slice_index_or, slice_set, inl, inr, ⊎_elim, take}
use Rattle.std.proofs.Math.ListN.{length-set}
use Rattle.std.specs.List.Sorted.{IsStrictlyIncreasing}
use Rattle.design_cell.specs.declared.value.Value.{Value}
use Rattle.design_cell.specs.declared.value.Value.TheVariants.{Zero, One, X, Z}
use Rattle.design_cell.specs.Value.{IsKnown, bit_value}
use Rattle.design_circuit.specs.Stim.{FitsStim}
use Rattle.design_circuit.specs.declared.design.Design.{Design}
use Rattle.design_circuit.specs.declared.stim.Stim.{Stim}
use Rattle.elab_names.specs.Sets.{has}
use Rattle.report_fix.specs.Started.{AreFine, IsStarted, Piece, SetsUnknown, fault_by, names_of, piece_at, register_at, start_fault, started_below, with_start}

-- A start that may be set: it stays, or it was x and is known.
abbrev MayBe : Value → Value → Type 0
MayBe old new = (new ≡ old) ⊎ ((old ≡ X) × IsKnown new)

known_bit : (b : Bool) → IsKnown (bit_value b)
known_bit true = tt
known_bit false = tt

was_unknown : (v : Value) (index : ℕ) → start_fault v index ≡ None → v ≡ X
was_unknown Zero index is = absurd cc
was_unknown One index is = absurd cc
was_unknown X index is = refl
was_unknown Z index is = absurd cc

-- The start of a register that is set was x.
unknown_by : (found : Option ℕ) (net : ℕ) (twice : Bool) (starts : List Value) (index : ℕ) → found ≡ Some net
    → fault_by found twice starts index ≡ None → slice_index_or starts net X ≡ X
unknown_by None net twice starts index is fine = absurd cc
unknown_by (Some own) net true starts index is fine = absurd cc
unknown_by (Some own) net false starts index is fine =
    let same : own ≡ net = cc in
    subst (λ (n : ℕ). slice_index_or starts n X ≡ X) same (was_unknown (slice_index_or starts own X) index fine)

-- Setting an x gives each net what it may be.
set_one : (old now : List Value) (net : ℕ) (b : Bool) → slice_index_or old net X ≡ X
    → ((n : ℕ) → MayBe (slice_index_or old n X) (slice_index_or now n X))
    → (n : ℕ) → MayBe (slice_index_or old n X) (slice_index_or (slice_set now net (bit_value b)) n X)
set_one old [] net b was may n = may n
set_one [] (v ∷ now) zero b was may zero = inr (refl, known_bit b)
set_one (u ∷ old) (v ∷ now) zero b was may zero = inr (was, known_bit b)
set_one old (v ∷ now) zero b was may (suc n) = may (suc n)
set_one old (v ∷ now) (suc net) b was may zero = may zero
set_one [] (v ∷ now) (suc net) b was may (suc n) = set_one [] now net b refl (λ k. may (suc k)) n
set_one (u ∷ old) (v ∷ now) (suc net) b was may (suc n) = set_one old now net b was (λ k. may (suc k)) n

set_by : (old now : List Value) (found : Option ℕ) (b twice : Bool) (index : ℕ) → fault_by found twice old index ≡ None
    → ((n : ℕ) → MayBe (slice_index_or old n X) (slice_index_or now n X))
    → (n : ℕ) → MayBe (slice_index_or old n X) (slice_index_or (with_start now found b) n X)
set_by old now None b twice index fine may = may
set_by old now (Some net) b twice index fine may =
    set_one old now net b (unknown_by (Some net) net twice old index refl fine) may

each_may : (design : Design) (starts : List Value) (pieces : List Piece) (n : ℕ) → AreFine design starts pieces n
    → (net : ℕ) → MayBe (slice_index_or starts net X) (slice_index_or (started_below design starts pieces n) net X)
each_may design starts pieces zero fine net = inl refl
each_may design starts pieces (suc n) fine net =
    set_by starts (started_below design starts pieces n) (register_at design pieces n) (piece_at pieces n).1
    (has (names_of (take n pieces)) (piece_at pieces n).0) (n + 1) (fine n (omega arith))
    (each_may design starts pieces n (λ k less. fine k (omega (arith, less)))) net

pub started_sets : (design : Design) (old : Stim) (pieces : List Piece) (new : Stim) → IsStarted design old pieces new
    → SetsUnknown design old new
started_sets design old pieces new is = record {
  starts = λ net within. subst (λ (vs : List Value). MayBe (slice_index_or old.starts net X) (slice_index_or vs net X))
      (sym is.starts) (each_may design old.starts pieces (length pieces) is.fine net);
  others = is.others;
}

with_length : (values : List Value) (net : Option ℕ) (b : Bool) → length (with_start values net b) ≡ length values
with_length values None b = refl
with_length values (Some net) b = length-set values net (bit_value b)

started_length : (design : Design) (starts : List Value) (pieces : List Piece) (n : ℕ)
    → length (started_below design starts pieces n) ≡ length starts
started_length design starts pieces zero = refl
started_length design starts pieces (suc n) =
    with_length (started_below design starts pieces n) (register_at design pieces n) (piece_at pieces n).1
    ∙ started_length design starts pieces n

not_z : (v : Value) → IsKnown v → v ≡ Z → ⊥
not_z Zero known is = cc
not_z One known is = cc
not_z X known is = known
not_z Z known is = known

may_no_z : (old new : Value) → MayBe old new → (old ≡ Z → ⊥) → new ≡ Z → ⊥
may_no_z old new may none is = ⊎_elim (λ (same : new ≡ old). none (sym same ∙ is))
    (λ (set : (old ≡ X) × IsKnown new). not_z new set.1 is) may

pub started_fits : (design : Design) (old : Stim) (pieces : List Piece) (new : Stim) → FitsStim design old
    → IsStarted design old pieces new → FitsStim design new
started_fits design old pieces new fits is = record {
  times = subst IsStrictlyIncreasing (sym is.others.times) fits.times;
  values = rw is.others.inputs fits.values;
  starts = ap length is.starts ∙ started_length design old.starts pieces (length pieces) ∙ fits.starts;
  no_float = λ net. subst (λ (vs : List Value). slice_index_or vs net X ≡ Z → ⊥) (sym is.starts)
      (may_no_z (slice_index_or old.starts net X) _ (each_may design old.starts pieces (length pieces) is.fine net)
      (fits.no_float net));
  places = rw (is.others.times, is.others.rounds) fits.places;
}
