-- The last change of a position before an end gives what it has.
use Rattle.std.proofs.Common.{◌≡◌, ◌≢◌, ℕ, ◌+◌, ◌-◌, ◌<◌, ◌≤◌, List, length, map, replicate, slice_index, take, sym, ap, ◌∙◌, arith, subst, ⊎_elim}
use Rattle.std.specs.List.{Contains}
use Rattle.std.proofs.lemmas.Bool.{cases_eq, cases_lt}
use Rattle.std.proofs.lemmas.List.{get_or-map, get_or-replicate, get_or_default, length-map, length-replicate}
use Rattle.base_sort.specs.Sorted.{AreBelow, numbers_with}
use Rattle.base_sort.proofs.Numbers as sorted
use Rattle.base_ledger.specs.Change.{AreInWidth, nth_change, no_change, change_payload, change_position}
use Rattle.base_ledger.specs.Ledger.{AreBounds, LedgerStep, step_row, steps_between, row_with}
use Rattle.base_ledger.specs.declared.change.Change.{Change}
use Rattle.base_ledger.proofs.Kept.{bounds_at, row_is}
use Rattle.base_ledger.proofs.Rows.{value_last, value_none}

abbrev positions_of : List Change → List ℕ
positions_of changes = map change_position changes

position_at : (changes : List Change) (i : ℕ) → i < length changes → slice_index (positions_of changes) i ≡ change_position (nth_change changes i)
position_at changes i less = get_or-map change_position changes i no_change 0 less

pub positions_below : (width : ℕ) (changes : List Change) → AreInWidth width changes → AreBelow width (map change_position changes)
positions_below width changes within i less =
    let long = length-map changes change_position in
    let low : i < length changes = omega (arith, long, less) in
    rw (position_at changes i low) (within i low)

-- How many numbers of a position's changes are below an end.
pub record IsCount (changes : List Change) (p end count : ℕ) (part : List ℕ) : Type 0 where
  pub part_is : part ≡ numbers_with (positions_of changes) p
  pub within : count ≤ length part
  pub last : 0 < count → slice_index part (count - 1) < end
  pub next : count < length part → end ≤ slice_index part count

part_rises : (changes : List Change) (p i k : ℕ) (part : List ℕ) → part ≡ numbers_with (positions_of changes) p → i ≤ k → k < length part → slice_index part i ≤ slice_index part k
part_rises changes p i k part is order less = ⊎_elim (λ same. (let e : slice_index part i ≡ slice_index part k = ap (slice_index part) same in omega (arith, e))) (λ differ. (let P = λ (xs : List ℕ). k < length xs → slice_index xs i < slice_index xs k in let rise = subst P (sym is) (sorted.numbers_rise (positions_of changes) (length (positions_of changes)) p i k (omega (arith, order, differ))) less in omega (arith, rise))) (cases_eq i k)

-- No change of the position stands between the last number that is counted and the end.
none_between : (changes : List Change) (part : List ℕ) (p end count i : ℕ) → IsCount changes p end count part → end ≤ length changes → (0 < count → slice_index part (count - 1) < i) → i < end → change_position (nth_change changes i) ≢ p
none_between changes part p end count i is fits behind before same =
    ⊎_elim (λ early. left early) (λ late. right late) (cases_lt found.0 count)
  where
    low : i < length changes
    low = omega (arith, fits, before)

    found : Contains part i
    found =
        let long = length-map changes change_position in
        let has = sorted.has_number (positions_of changes) (length (positions_of changes)) i (let l = low in omega (arith, long, l)) in
        let here : slice_index (positions_of changes) i ≡ p = position_at changes i low ∙ same in
        subst (λ (xs : List ℕ). Contains xs i) (sym is.part_is) (subst (λ q. Contains (numbers_with (positions_of changes) q) i) here has)

    inside : found.0 < length part
    inside = found.1

    value : slice_index part found.0 ≡ i
    value = get_or_default part found.0 0 i inside ∙ found.2

    left : found.0 < count → ⊥
    left early =
        let within = is.within in
        let order = part_rises changes p found.0 (count - 1) part is.part_is (omega (arith, early)) (omega (arith, early, within)) in
        let v = value in
        let b = behind (omega (arith, early)) in
        omega (arith, order, v, b)

    right : count ≤ found.0 → ⊥
    right late =
        let room = inside in
        let order = part_rises changes p count found.0 part is.part_is late room in
        let v = value in
        let n = is.next (omega (arith, late, room)) in
        omega (arith, order, v, n, before)

pub has_none : (width first : ℕ) (changes : List Change) (starts part : List ℕ) (steps : List LedgerStep) (step p end count : ℕ) → AreBounds changes starts → steps_between (replicate width first) changes starts ≡ steps → step < length steps → p < width → end ≡ slice_index starts (step + 1) → IsCount changes p end count part → count ≡ 0 → first ≡ slice_index (step_row steps step) p
has_none width first changes starts part steps step p end count bounds same less low end_is is none =
    let at = bounds_at (replicate width first) changes starts steps step same bounds less in
    let within = at.within in
    let fits : end ≤ length changes = omega (arith, within, end_is) in
    let blank = value_none (replicate width first) changes p end fits (λ i before. none_between changes part p end count i is fits (λ some. absurd (omega (arith, some, none))) before) in
    let row = row_is (replicate width first) changes starts steps step same less in
    sym (ap (λ (r : List ℕ). slice_index r p) row ∙ ap (λ n. slice_index (row_with (replicate width first) (take n changes)) p) (sym end_is) ∙ blank ∙ get_or-replicate width p first 0 low)

pub number_small : (changes : List Change) (part : List ℕ) (p end count : ℕ) → IsCount changes p end count part → 0 < count → slice_index part (count - 1) < length changes
number_small changes part p end count is some =
    let within = is.within in
    let long = length-map changes change_position in
    let P = λ (xs : List ℕ). count - 1 < length xs → slice_index xs (count - 1) < length (positions_of changes) in
    let small = subst P (sym is.part_is) (sorted.number_small (positions_of changes) (length (positions_of changes)) p (count - 1)) (omega (arith, some, within)) in
    omega (arith, small, long)

pub has_last : (width first : ℕ) (changes : List Change) (starts part : List ℕ) (steps : List LedgerStep) (step p end count : ℕ) → AreBounds changes starts → steps_between (replicate width first) changes starts ≡ steps → step < length steps → p < width → end ≡ slice_index starts (step + 1) → IsCount changes p end count part → 0 < count → change_payload (nth_change changes (slice_index part (count - 1))) ≡ slice_index (step_row steps step) p
has_last width first changes starts part steps step p end count bounds same less low end_is is some =
    let at = bounds_at (replicate width first) changes starts steps step same bounds less in
    let within = at.within in
    let fits : end ≤ length changes = omega (arith, within, end_is) in
    let count_within = is.within in
    let wide = length-replicate width first in
    let P = λ (xs : List ℕ). count - 1 < length xs → slice_index (positions_of changes) (slice_index xs (count - 1)) ≡ p in
    let key = subst P (sym is.part_is) (sorted.number_key (positions_of changes) (length (positions_of changes)) p (count - 1)) (omega (arith, some, count_within)) in
    let there : change_position (nth_change changes (slice_index part (count - 1))) ≡ p = sym (position_at changes (slice_index part (count - 1)) (number_small changes part p end count is some)) ∙ key in
    let value = value_last (replicate width first) changes p end (slice_index part (count - 1)) (omega (arith, wide, low)) fits (is.last some) there (λ i behind before. none_between changes part p end count i is fits (λ s. behind) before) in
    let row = row_is (replicate width first) changes starts steps step same less in
    sym (ap (λ (r : List ℕ). slice_index r p) row ∙ ap (λ n. slice_index (row_with (replicate width first) (take n changes)) p) (sym end_is) ∙ value)
