-- Words of bits, one bit a row.
use Rattle.std.proofs.Common.{◌≡◌, ℕ, zero, suc, ◌+◌, ◌*◌, ◌/◌, ◌%◌, ◌<◌, ◌≤◌, ◌&&◌, Bool, true, false, List, [], ◌∷◌, length, refl, sym, ap, ◌∙◌, arith, slice_index, min, bit_and, add-one, Option, Some, None, inl, inr}
use Rattle.std.proofs.lemmas.Nat.Bits.{bit_at_and, bit_at_ones}
use Rattle.std.proofs.lemmas.Bool.Decides.{eqb_tells}
use Rattle.std.proofs.lemmas.List.{get_or_past}
use Rattle.design_cell.specs.declared.value.Value.{Value}
use Rattle.design_cell.specs.declared.value.Value.TheVariants.{Zero, One, X, Z}
use Rattle.design_cell.specs.declared.symbol.Symbol.{Symbol}
use Rattle.design_cell.specs.declared.symbol.Symbol.TheVariants.{Single, Change}
use Rattle.design_cell.specs.declared.row.RawRow.{RawRow}
use Rattle.design_cell.specs.declared.row.Changed.{Changed}
use Rattle.design_cell.specs.Conflict.{IsPinBelow}
use Rattle.design_cell.specs.Row.{before, columns, matches}
use Rattle.design_cell.specs.declared.index.Block.{Block}
use Rattle.design_cell.specs.Symbol.{fits, stands, changes}
use Rattle.design_cell.specs.Row.{symbol_at, fits_below, nowhere, row_at}
use Rattle.design_cell.specs.Index.{code, value_of, flag, IsMask, IsBlock}

no_change : (o n : Value) → (stands 48 o && stands 48 n && changes 42 o n) ≡ false
no_change Zero Zero = refl
no_change Zero One = refl
no_change Zero X = refl
no_change Zero Z = refl
no_change One n = refl
no_change X n = refl
no_change Z n = refl

pub nowhere_fits : (c : ℕ) (o n : Value) → fits (symbol_at nowhere c) o n ≡ false
unfolding fits
nowhere_fits c o n = no_change o n

pub beyond : (rows : List RawRow) (r : ℕ) → length rows ≤ r → row_at rows r ≡ nowhere
beyond [] r h = refl
beyond (x ∷ rows) zero h = absurd (omega arith)
beyond (x ∷ rows) (suc r) h = beyond rows r (omega arith)

min_flags : (a b : Bool) → min (flag a) (flag b) ≡ flag (a && b)
min_flags true true = refl
min_flags true false = refl
min_flags false true = refl
min_flags false false = refl

pub mask_and : (p r : ℕ → Bool) (a b : ℕ) → IsMask p a → IsMask r b → IsMask (λ i. p i && r i) (bit_and a b)
mask_and p r a b h k i below =
    let e = h i below in
    let f = k i below in
    bit_at_and a b i ∙ rw (e, f) (min_flags (p i) (r i))

pub mask_max : IsMask (λ i. true) 18446744073709551615
mask_max i below = bit_at_ones 64 i below

stands_code : (c : ℕ) (v : Value) → stands c (value_of (code v)) ≡ stands c v
stands_code c Zero = refl
stands_code c One = refl
stands_code c X = refl
stands_code c Z = refl

changes_code : (c : ℕ) (o n : Value) → changes c (value_of (code o)) (value_of (code n)) ≡ changes c o n
changes_code c Zero Zero = refl
changes_code c Zero One = refl
changes_code c Zero X = refl
changes_code c Zero Z = refl
changes_code c One Zero = refl
changes_code c One One = refl
changes_code c One X = refl
changes_code c One Z = refl
changes_code c X Zero = refl
changes_code c X One = refl
changes_code c X X = refl
changes_code c X Z = refl
changes_code c Z Zero = refl
changes_code c Z One = refl
changes_code c Z X = refl
changes_code c Z Z = refl

pub fits_code : (s : Symbol) (o n : Value) → fits s (value_of (code o)) (value_of (code n)) ≡ fits s o n
unfolding fits
fits_code (Single c) o n = let e = stands_code c n in let f = changes_code c o n in cc
fits_code (Change a b) o n = let d = stands_code a o in let e = stands_code b n in let f = changes_code 42 o n in cc

pub code_small : (v : Value) → code v < 3
code_small Zero = omega arith
code_small One = omega arith
code_small X = omega arith
code_small Z = omega arith

-- the word of a column and its two values
pub cell_of : (rows : List RawRow) (base : ℕ) (b : Block) → IsBlock rows base b → (c : ℕ) → c < 11 → (o v : Value) → IsMask (λ i. fits (symbol_at (row_at rows (base + i)) c) o v) (slice_index b.masks (c * 9 + (code o * 3 + code v)))
cell_of rows base b is c below o v i small =
    let x = code o in
    let y = code v in
    let hx : code o < 3 = code_small o in
    let hy : code v < 3 = code_small v in
    let p = c * 9 + (code o * 3 + code v) in
    let e : (c * 9 + (code o * 3 + code v)) / 9 ≡ c = omega arith in
    let f : (c * 9 + (code o * 3 + code v)) % 9 / 3 ≡ code o = omega arith in
    let g : (c * 9 + (code o * 3 + code v)) % 3 ≡ code v = omega arith in
    let h = is.cells (c * 9 + (code o * 3 + code v)) (omega arith) i small in
    h ∙ ap flag (ap (λ k. fits (symbol_at (row_at rows (base + i)) k) (value_of ((c * 9 + (code o * 3 + code v)) % 9 / 3)) (value_of ((c * 9 + (code o * 3 + code v)) % 3))) e ∙ rw (f, g) (fits_code (symbol_at (row_at rows (base + i)) c) o v))

pub fit_step : (rows : List RawRow) (base : ℕ) (b : Block) → IsBlock rows base b → (c : ℕ) → c < 11 → (old new : ℕ → Value) (w x y : ℕ) → x ≡ code (old c) → y ≡ code (new c) → IsMask (λ i. fits_below c (row_at rows (base + i)) old new) w → IsMask (λ i. fits_below (c + 1) (row_at rows (base + i)) old new) (bit_and w (slice_index b.masks (c * 9 + (x * 3 + y))))
fit_step rows base b is c below old new w x y ex ey h =
    let m = mask_and _ _ w _ h (cell_of rows base b is c below (old c) (new c)) in
    rw (add-one, ex, ey) m

-- the state is the column behind the pins, and no pin that changed
state_same : (changed : Option Changed) (pins : List Value) (q : Value) → IsPinBelow (length pins) changed → before changed (columns pins q) (length pins) ≡ q
state_same None pins q pin = get_or_past pins (length pins) q (omega arith)
state_same (Some changed) pins q pin = elim (eqb_tells (length pins) changed.pin) as (λ _. before (Some changed) (columns pins q) (length pins) ≡ q) [
  | inl p ↦ absurd (omega (arith, p.1, pin))
  | inr p ↦ rw p.0 (get_or_past pins (length pins) q (omega arith))
]

pub fit_state : (rows : List RawRow) (base : ℕ) (b : Block) → IsBlock rows base b → (changed : Option Changed) (pins : List Value) (q : Value) (c : ℕ) → c ≡ length pins → length pins ≤ 10 → IsPinBelow (length pins) changed → (w x y : ℕ) → x ≡ code q → y ≡ code q → IsMask (λ i. fits_below c (row_at rows (base + i)) (before changed (columns pins q)) (columns pins q)) w → IsMask (λ i. matches (length pins) (before changed (columns pins q)) (columns pins q) (row_at rows (base + i))) (bit_and w (slice_index b.masks (length pins * 9 + (x * 3 + y))))
fit_state rows base b is changed pins q c end few pin w x y ex ey h =
    let old = ex ∙ ap code (sym (state_same changed pins q pin)) in
    let new = ey ∙ ap code (sym (get_or_past pins (length pins) q (omega arith))) in
    fit_step rows base b is (length pins) (omega (arith, few)) (before changed (columns pins q)) (columns pins q) w x y old new (rw end at h)
