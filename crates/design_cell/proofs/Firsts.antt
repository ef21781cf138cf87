-- The first row that passes, by words of bits.
use Rattle.std.proofs.Common.{◌≡◌, ℕ, ◌+◌, ◌-◌, ◌^◌, ◌<◌, ◌≤◌, ◌&&◌, Bool, true, false, List, length, refl, sym, ap, ◌∙◌, arith, bit_and, add-one, subst, w64, inl, inr, not, Option, Some, None}
use Rattle.std.specs.Int.{bit_at, trailing_zeros}
use Rattle.std.proofs.lemmas.Nat.Bits.{bit_at_not, bit_at-zero, bit_at-trailing_zeros}
use Rattle.std.proofs.lemmas.Bool.{cases_lt}
use Rattle.design_cell.specs.declared.value.Value.{Value}
use Rattle.design_cell.specs.declared.row.RawRow.{RawRow}
use Rattle.design_cell.specs.declared.index.Block.{Block}
use Rattle.design_cell.specs.Symbol.{fits}
use Rattle.design_cell.specs.Row.{symbol_at, fits_below, matches, is_edge_row, nowhere, row_at}
use Rattle.design_cell.specs.Table.{level_matches, edge_matches}
use Rattle.design_cell.specs.Index.{flag, IsMask, IsBlock, IsFirst, IsFirstBelow}
use Rattle.design_cell.proofs.Masks.{mask_and, nowhere_fits, beyond}

flag_not : (b : Bool) → 1 - flag b ≡ flag (not b)
flag_not true = refl
flag_not false = refl

flag_true : (b : Bool) → flag b ≡ 1 → b ≡ true
flag_true true h = refl
flag_true false h = absurd (omega arith)

flag_false : (b : Bool) → flag b ≡ 0 → b ≡ false
flag_false true h = absurd (omega arith)
flag_false false h = refl

-- the edge rows, or the level rows, of a word of rows that match
pub edge_mask : (rows : List RawRow) (base : ℕ) (b : Block) → IsBlock rows base b → (n : ℕ) (old new : ℕ → Value) (w : ℕ) → IsMask (λ i. matches n old new (row_at rows (base + i))) w → IsMask (λ i. edge_matches n old new (row_at rows (base + i))) (bit_and b.edges w)
edge_mask rows base b is n old new w h = mask_and _ (λ i. matches n old new (row_at rows (base + i))) b.edges w is.edges h

pub level_mask : (rows : List RawRow) (base : ℕ) (b : Block) → IsBlock rows base b → (n : ℕ) (old new : ℕ → Value) (w : ℕ) → IsMask (λ i. matches n old new (row_at rows (base + i))) w → IsMask (λ i. level_matches n old new (row_at rows (base + i))) (bit_and (18446744073709551615 - b.edges) w)
level_mask rows base b is n old new w h =
    let flipped : IsMask (λ i. not (is_edge_row (row_at rows (base + i)))) (18446744073709551615 - b.edges) = λ i small.
    let e = is.edges i small in
    bit_at_not w64 b.edges i is.small small ∙ rw e (flag_not (is_edge_row (row_at rows (base + i)))) in
    mask_and _ (λ i. matches n old new (row_at rows (base + i))) _ w flipped h

and_false : (a : Bool) → (a && false) ≡ false
and_false true = refl
and_false false = refl

pub matches_nowhere : (n : ℕ) (old new : ℕ → Value) → matches n old new nowhere ≡ false
matches_nowhere n old new =
    let e : fits (symbol_at nowhere n) (old n) (new n) ≡ false = nowhere_fits n (old n) (new n) in
    rw (add-one, e) (and_false (fits_below n nowhere old new))

pub level_nowhere : (n : ℕ) (old new : ℕ → Value) → level_matches n old new nowhere ≡ false
level_nowhere n old new = matches_nowhere n old new

pub edge_nowhere : (n : ℕ) (old new : ℕ → Value) → edge_matches n old new nowhere ≡ false
edge_nowhere n old new = refl

within_rows : (test : RawRow → Bool) (rows : List RawRow) (k : ℕ) → test (row_at rows k) ≡ true → test nowhere ≡ false → k < length rows
within_rows test rows k here none = elim (cases_lt k (length rows)) as (λ _. k < length rows) [
  | inl h ↦ h
  | inr h ↦ absurd (let e : row_at rows k ≡ nowhere = beyond rows k h in let f : test (row_at rows k) ≡ test nowhere = ap test e in let g : true ≡ false = sym here ∙ f ∙ none in cc)
]

-- the lowest bit of a word is the first row, where none before it passes
pub first_here : (test : RawRow → Bool) (rows : List RawRow) (base w : ℕ) → IsMask (λ i. test (row_at rows (base + i))) w → 0 < w → w < 2 ^ 64 → ((r : ℕ) → r < base → test (row_at rows r) ≡ false) → test nowhere ≡ false → IsFirst test rows (base + trailing_zeros w64 w)
first_here test rows base w mask some small before none =
    let z = trailing_zeros w64 w in
    let facts = bit_at-trailing_zeros w64 w some small in
    let passes_here : test (row_at rows (base + z)) ≡ true = flag_true _ (sym (mask z facts.0) ∙ facts.1) in
    record {
      within = within_rows test rows (base + z) passes_here none;
      here = passes_here;
      earlier = λ i below. elim (cases_lt i base) as (λ _. test (row_at rows i) ≡ false) [
        | inl h ↦ before i h
        | inr h ↦ (let lt : i - base < z = omega arith in
            let bit : flag (test (row_at rows (base + (i - base)))) ≡ 0 = sym (mask (i - base) (omega (arith, facts.0))) ∙ facts.2 (i - base) lt in
            let e : base + (i - base) ≡ i = omega arith in
            subst (λ k. test (row_at rows k) ≡ false) e (flag_false _ bit))
      ];
    }

pub none_more : (test : RawRow → Bool) (rows : List RawRow) (base w : ℕ) → IsMask (λ i. test (row_at rows (base + i))) w → w ≡ 0 → ((r : ℕ) → r < base → test (row_at rows r) ≡ false) → (r : ℕ) → r < base + 64 → test (row_at rows r) ≡ false
none_more test rows base w mask empty before r below = elim (cases_lt r base) as (λ _. test (row_at rows r) ≡ false) [
  | inl h ↦ before r h
  | inr h ↦ (let lt : r - base < 64 = omega arith in
      let bit : flag (test (row_at rows (base + (r - base)))) ≡ 0 = sym (mask (r - base) lt) ∙ ap (λ n. bit_at n (r - base)) empty ∙ bit_at-zero (r - base) in
      let e : base + (r - base) ≡ r = omega arith in
      subst (λ k. test (row_at rows k) ≡ false) e (flag_false _ bit))
]

-- what holds below an end holds below a lesser one
pub below_less : (test : RawRow → Bool) (rows : List RawRow) (end less : ℕ) (k : Option ℕ) → less ≤ end → IsFirstBelow test rows end k → IsFirstBelow test rows less k
below_less test rows end less None le h = λ i below. h i (omega arith)
below_less test rows end less (Some k) le h = h
