-- Changes written into a row.
use Rattle.std.proofs.Common.{◌≡◌, ◌≢◌, ℕ, zero, suc, ◌+◌, ◌*◌, ◌/◌, ◌%◌, ◌<◌, ◌≤◌, List, [], ◌∷◌, ◌++◌, length, replicate, take, set, slice_index, refl, sym, ap, ◌∙◌, arith, get_or-set_other, get_or-set_same, length-set, ⊎_elim}
use Rattle.std.proofs.lemmas.Bool.{cases_eq}
use Rattle.std.proofs.lemmas.List.{get_or-replicate, length-replicate, take_all, take_more}
use Rattle.base_ledger.specs.Change.{nth_change, no_change, change_payload, change_position}
use Rattle.base_ledger.specs.Ledger.{row_with}
use Rattle.base_ledger.specs.declared.change.Change.{Change}

pub row_with-append : (row : List ℕ) (first more : List Change) → row_with row (first ++ more) ≡ row_with (row_with row first) more
row_with-append row [] more = refl
row_with-append row (change ∷ first) more = row_with-append (set row (change_position change) (change_payload change)) first more

pub length-row_with : (row : List ℕ) (changes : List Change) → length (row_with row changes) ≡ length row
length-row_with row [] = refl
length-row_with row (change ∷ changes) = length-row_with (set row (change_position change) (change_payload change)) changes ∙ length-set row (change_position change) (change_payload change)

pub written_more : (row : List ℕ) (changes : List Change) (n : ℕ) → n < length changes → row_with row (take (n + 1) changes) ≡ set (row_with row (take n changes)) (change_position (nth_change changes n)) (change_payload (nth_change changes n))
written_more row changes n less = ap (row_with row) (take_more changes n no_change less) ∙ row_with-append row (take n changes) (nth_change changes n ∷ [])

-- Where no change is of a position, it has what it had.
pub value_none : (row : List ℕ) (changes : List Change) (position n : ℕ) → n ≤ length changes → ((i : ℕ) → i < n → change_position (nth_change changes i) ≢ position) → slice_index (row_with row (take n changes)) position ≡ slice_index row position
value_none row changes position zero within none = refl
value_none row changes position (suc n) within none =
    let less : n < length changes = omega arith in
    let differ : position ≢ change_position (nth_change changes n) = λ same. none n (omega arith) (sym same) in
    let before = value_none row changes position n (omega arith) (λ i low. none i (omega (arith, low))) in
    let e : suc n ≡ n + 1 = omega arith in
    rw (e, written_more row changes n less, get_or-set_other (row_with row (take n changes)) (change_position (nth_change changes n)) position (change_payload (nth_change changes n)) 0 differ) before

-- Else it has what the last of them put there.
pub value_last : (row : List ℕ) (changes : List Change) (position n k : ℕ) → position < length row → n ≤ length changes → k < n → change_position (nth_change changes k) ≡ position → ((i : ℕ) → k < i → i < n → change_position (nth_change changes i) ≢ position) → slice_index (row_with row (take n changes)) position ≡ change_payload (nth_change changes k)
value_last row changes position zero k room within less at none = absurd (omega (arith, less))
value_last row changes position (suc n) k room within less at none =
    ⊎_elim (λ same. last same) (λ differ. (let low : k < n = omega (arith, less, differ) in earlier low (value_last row changes position n k room (omega (arith, within)) low at (λ i high small. none i high (omega (arith, small)))))) (cases_eq k n)
  where
    inside : n < length changes
    inside = omega (arith, within)

    e : suc n ≡ n + 1
    e = omega arith

    last : k ≡ n → slice_index (row_with row (take (suc n) changes)) position ≡ change_payload (nth_change changes k)
    last same =
        let here : change_position (nth_change changes n) ≡ position = ap (λ m. change_position (nth_change changes m)) (sym same) ∙ at in
        let wide = length-row_with row (take n changes) in
        let fits : position < length (row_with row (take n changes)) = omega (arith, wide, room) in
        rw (e, written_more row changes n inside, here, get_or-set_same (row_with row (take n changes)) position (change_payload (nth_change changes n)) 0 fits) (ap (λ m. change_payload (nth_change changes m)) (sym same))

    earlier : k < n → slice_index (row_with row (take n changes)) position ≡ change_payload (nth_change changes k) → slice_index (row_with row (take (suc n) changes)) position ≡ change_payload (nth_change changes k)
    earlier low before =
        let apart : position ≢ change_position (nth_change changes n) = λ same. none n low (omega arith) (sym same) in
        rw (e, written_more row changes n inside, get_or-set_other (row_with row (take n changes)) (change_position (nth_change changes n)) position (change_payload (nth_change changes n)) 0 apart) before

pub change_position-packed_change : (position payload : ℕ) → payload < 256 → (position * 256 + payload) / 256 ≡ position
change_position-packed_change position payload small = omega (arith, small)

pub change_payload-packed_change : (position payload : ℕ) → payload < 256 → (position * 256 + payload) % 256 ≡ payload
change_payload-packed_change position payload small = omega (arith, small)

-- So after all changes, of a row that has one value everywhere.
pub value_all_none : (width first : ℕ) (changes : List Change) (position : ℕ) → position < width → ((i : ℕ) → i < length changes → change_position (nth_change changes i) ≢ position) → first ≡ slice_index (row_with (replicate width first) changes) position
value_all_none width first changes position less none =
    let at = value_none (replicate width first) changes position (length changes) (omega arith) none in
    let all = take_all (length changes) changes (omega arith) in
    sym (ap (λ (cs : List Change). slice_index (row_with (replicate width first) cs) position) (sym all) ∙ at ∙ get_or-replicate width position first 0 less)

pub value_all_last : (width first : ℕ) (changes : List Change) (position k : ℕ) → position < width → k < length changes → change_position (nth_change changes k) ≡ position → ((i : ℕ) → k < i → i < length changes → change_position (nth_change changes i) ≢ position) → change_payload (nth_change changes k) ≡ slice_index (row_with (replicate width first) changes) position
value_all_last width first changes position k less inside at none =
    let wide = length-replicate width first in
    let last = value_last (replicate width first) changes position (length changes) k (omega (arith, wide, less)) (omega arith) inside at none in
    let all = take_all (length changes) changes (omega arith) in
    sym (ap (λ (cs : List Change). slice_index (row_with (replicate width first) cs) position) (sym all) ∙ last)
