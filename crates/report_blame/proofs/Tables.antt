-- The counts of the sources, sorted, are the table.
use Rattle.std.proofs.Common.{◌≡◌, ◌≢◌, ◌⊎◌, ℕ, zero, suc, ◌+◌, ◌<◌, ◌≤◌, ◌==◌, Bool, true, false, List, [], ◌∷◌, All, length, map, get_or, if◌then◌else◌, nat_lt, refl, sym, ap, ◌∙◌, subst, arith, inl, inr, ⊎_elim}
use Rattle.std.specs.Prelude.{count_by, sum_by}
use Rattle.std.specs.List.{AllAdjacentBelow, AllByRecursion}
use Rattle.std.specs.List.Sorted.{IsPermutation, IsSorted}
use Rattle.std.specs.Ordering.{is_lt, nat_cmp, ordering_then}
use Rattle.std.proofs.Common.{Ordering}
use Rattle.std.proofs.lemmas.List.Sums.{sum_by-cons}
use Rattle.std.proofs.lemmas.Bool.{cases_eq, cases_lt, eq-eqb, le-ltb, lt-ltb}
use Rattle.std.proofs.lemmas.Bool.Decides.{Decides-eqb}
use Rattle.std.proofs.lemmas.List.{get_or-map}
use Rattle.std.proofs.lemmas.List.Elements.{All-head, All-map, All-tail}
use Rattle.std.proofs.lemmas.List.Sorted.{All-permutation, length_permutation, sum_by-IsPermutation}
use Rattle.design_circuit.specs.declared.place.Place.{Place}
use Rattle.design_circuit.specs.Filling.{IsPlace}
use Rattle.design_circuit.specs.Fits.{Fits, place_at}
use Rattle.design_circuit.specs.Job.{Job, number_of, places_of}
use Rattle.design_circuit.proofs.Handed.{number_within}
use Rattle.design_circuit.proofs.Numbers.{is_place_at, number_of_place_at}
use Rattle.report_bits.specs.Counts.{one_if}
use Rattle.report_blame.specs.Table.{ComesBefore, IsBlameTable, Row, bits_of}
use Rattle.report_blame.specs.Tally.{Counted, IsTally, count_in, row_at, rows_for}
use Rattle.report_blame.specs.declared.bits.Blamed.{Blamed}

-- ---- lists

sum_map : {X Y : Type 0} (g : Y → ℕ) (f : X → Y) (xs : List X) → sum_by g (map f xs) ≡ sum_by (λ x. g (f x)) xs
sum_map {X = X} g f [] = refl
sum_map {X = X} g f (x ∷ xs) =
    sum_by-cons g (f x) (map f xs) ∙ ap (λ (k : ℕ). g (f x) + k) (sum_map g f xs)
    ∙ sym (sum_by-cons (λ (y : X). g (f y)) x xs)

length_map : {X Y : Type 0} (f : X → Y) (xs : List X) → length (map f xs) ≡ length xs
length_map f [] = refl
length_map f (x ∷ xs) = ap (λ (k : ℕ). suc k) (length_map f xs)

-- What counts stands there.
counted_has : (P : ℕ → Type 0) (xs : List ℕ) (n : ℕ) → All P xs → 0 < count_in xs n → P n
counted_has P [] n all some = absurd (omega (arith, some))
counted_has P (x ∷ xs) n all some =
    let parts = sum_by-cons (λ (y : ℕ). if y == n then 1 else 0) x xs in
    by (x == n) refl (omega (arith, some, parts)) (counted_has P xs n (All-tail P x xs all))
  where
    by : (b : Bool) → (x == n) ≡ b → 0 < (if b then 1 else 0) + count_in xs n → (0 < count_in xs n → P n) → P n
    by true same more rest = subst P ((Decides-eqb x n).0 same) (All-head P x xs all)
    by false other more rest = rest (omega (arith, more))

one_row : (rows : List Counted) (r : Counted) (n : ℕ)
    → rows_for (r ∷ rows) n ≡ (if r.1 == n then 1 else 0) + rows_for rows n
one_row rows r n = sum_by-cons (λ (row : Counted). if row.1 == n then 1 else 0) r rows

same_row : (r : Counted) (n : ℕ) → r.1 ≡ n → one_if (r.1 == n) ≡ 1
same_row r n same = ap one_if (eq-eqb r.1 n same)

-- Two neighbours with one number are two rows for it.
two_rows : (rows : List Counted) (k n : ℕ) (d : Counted) → k + 1 < length rows → (get_or rows k d).1 ≡ n
    → (get_or rows (k + 1) d).1 ≡ n → 1 < rows_for rows n
two_rows [] k n d less first second = absurd (omega (arith, less))
two_rows (r ∷ []) k n d less first second = absurd (omega (arith, less))
two_rows (r ∷ s ∷ rows) zero n d less first second =
    let a = one_row (s ∷ rows) r n in
    let b = one_row rows s n in
    let x = same_row r n first in
    let y = same_row s n second in
    omega (arith, a, b, x, y)
two_rows (r ∷ s ∷ rows) (suc k) n d less first second =
    let next : suc k + 1 ≡ suc (k + 1) = omega arith in
    let there : (get_or (r ∷ s ∷ rows) (suc (k + 1)) d).1 ≡ n =
    ap (λ (i : ℕ). (get_or (r ∷ s ∷ rows) i d).1) (sym next) ∙ second in
    let rest = two_rows (s ∷ rows) k n d (omega (arith, less)) first there in
    let a = one_row (s ∷ rows) r n in
    omega (arith, rest, a)

-- ---- the order

-- How rows are sorted: the greatest count first, then by number.
abbrev compared : Counted → Counted → Ordering
compared row other = ordering_then (nat_cmp other.0.0 row.0.0) (nat_cmp row.1 other.1)

not_after : (row other : Counted) → is_lt (compared other row) ≡ false → row.1 ≢ other.1
    → (other.0.0 < row.0.0) ⊎ ((row.0.0 ≡ other.0.0) × (row.1 < other.1))
not_after row other sorted apart = ⊎_elim
    (λ (less : row.0.0 < other.0.0). absurd (let e = rw (lt-ltb row.0.0 other.0.0 less) at sorted in cc))
    (λ (more : other.0.0 ≤ row.0.0). ⊎_elim
    (λ (same : row.0.0 ≡ other.0.0). ⊎_elim
    (λ (below : row.1 < other.1). inr (same, below))
    (λ (above : other.1 ≤ row.1).
    (let low : other.1 < row.1 = omega (arith, above, apart) in
    absurd (let e = rw (le-ltb row.0.0 other.0.0 more, eq-eqb row.0.0 other.0.0 same, lt-ltb other.1 row.1 low) at sorted
    in cc)))
    (cases_lt row.1 other.1))
    (λ (differ : row.0.0 ≡ other.0.0 → ⊥). inl (omega (arith, more, differ)))
    (cases_eq row.0.0 other.0.0))
    (cases_lt row.0.0 other.0.0)

number_at : (j : Job) → Fits j → (n : ℕ) → n < places_of j → number_of j (place_at j n) ≡ n
number_at j fits n within = number_of_place_at j n fits.ordering fits.all within

placed : (j : Job) → Fits j → (row other : Counted) → row.1 < places_of j → other.1 < places_of j
    → (other.0.0 < row.0.0) ⊎ ((row.0.0 ≡ other.0.0) × (row.1 < other.1))
    → ComesBefore j (row_at j row) (row_at j other)
placed j fits row other within too before = ⊎_elim
    (λ (more : other.0.0 < row.0.0). inl more)
    (λ (equal : (row.0.0 ≡ other.0.0) × (row.1 < other.1)).
    (let a = number_at j fits row.1 within in let b = number_at j fits other.1 too in let less = equal.1 in
    inr (equal.0, omega (arith, a, b, less)))) before

rows_order : (j : Job) → Fits j → (rows : List Counted) → All (λ (row : Counted). row.1 < places_of j) rows
    → IsSorted compared rows → ((n : ℕ) → rows_for rows n ≤ 1)
    → AllAdjacentBelow (ComesBefore j) (map (row_at j) rows) (length (map (row_at j) rows))
rows_order j fits [] within sorted once = λ k d less. absurd (omega (arith, less))
rows_order j fits (r ∷ rs) within sorted once = λ k d less.
    (let rows : List Counted = r ∷ rs in
    let long : length (map (row_at j) rows) ≡ length rows = length_map (row_at j) rows in
    let below : k + 1 < length rows = omega (arith, long, less) in
    let first = get_or-map (row_at j) rows k r d (omega (arith, below)) in
    let second = get_or-map (row_at j) rows (k + 1) r d below in
    let row = get_or rows k r in
    let other = get_or rows (k + 1) r in
    let apart : row.1 ≢ other.1 = λ same. (let two = two_rows rows k other.1 r below same refl in
    let one = once other.1 in absurd (omega (arith, two, one))) in
    let before = not_after row other (sorted k r (omega arith) below) apart in
    subst (λ (x : Row). ComesBefore j x (get_or (map (row_at j) rows) (k + 1) d)) (sym first)
    (subst (λ (y : Row). ComesBefore j (row_at j row) y) (sym second)
    (placed j fits row other (within k r (omega (arith, below))) (within (k + 1) r below) before)))

-- ---- the table

abbrev rows_of_numbers : Job → List Counted → ℕ → ℕ
rows_of_numbers j rows n = count_by (λ (row : Row). number_of j row.0 == n) (map (row_at j) rows)

rows_placed : (j : Job) → Fits j → (rows : List Counted) (n : ℕ) → All (λ (row : Counted). row.1 < places_of j) rows
    → rows_of_numbers j rows n ≡ rows_for rows n
rows_placed j fits [] n within = refl
rows_placed j fits (r ∷ rows) n within =
    let here = number_at j fits r.1 (All-head (λ (row : Counted). row.1 < places_of j) r rows within) in
    let rest = rows_placed j fits rows n (All-tail (λ (row : Counted). row.1 < places_of j) r rows within) in
    sum_by-cons (λ (row : Row). if number_of j row.0 == n then 1 else 0) (row_at j r) (map (row_at j) rows)
    ∙ ap (λ (m : ℕ). (if m == n then 1 else 0) + rows_of_numbers j rows n) here
    ∙ ap (λ (k : ℕ). (if r.1 == n then 1 else 0) + k) rest ∙ sym (one_row rows r n)

places_there : (j : Job) → Fits j → (rows : List Counted) → All (λ (row : Counted). row.1 < places_of j) rows
    → AllByRecursion (λ (row : Row). IsPlace j row.0) (map (row_at j) rows)
places_there j fits [] within = tt
places_there j fits (r ∷ rows) within = (
  is_place_at j r.1 fits.ordering fits.all (All-head (λ (row : Counted). row.1 < places_of j) r rows within),
  places_there j fits rows (All-tail (λ (row : Counted). row.1 < places_of j) r rows within),
)

at_most_one : (k : ℕ) (b : Bool) → k ≡ one_if b → k ≤ 1
at_most_one k true is = omega (arith, is)
at_most_one k false is = omega (arith, is)

module _ (j : Job) (fits : Fits j) (bits : List Blamed) (orig xs : List ℕ) (counted rows : List Counted)
    (sources : All (λ (b : Blamed). IsPlace j b.source) bits)
    (orig_is : orig ≡ map (λ (b : Blamed). number_of j b.source) bits) (moved : IsPermutation orig xs)
    (tally : IsTally xs counted) (sorted : IsPermutation counted rows)
  where
    numbers_within : All (λ n. n < places_of j) xs
    numbers_within = All-permutation (λ n. n < places_of j) orig xs moved (rw orig_is
        (All-map (λ n. n < places_of j) (λ (b : Blamed). number_of j b.source) bits
        (λ k d less. number_within j fits (get_or bits k d).source (sources k d less))))

    pub rows_within : All (λ (row : Counted). row.1 < places_of j) rows
    rows_within = All-permutation (λ (row : Counted). row.1 < places_of j) counted rows sorted
        (λ k d less. (let a = tally.counts k d less in let b = tally.some k d less in
        counted_has (λ n. n < places_of j) xs (get_or counted k d).1 numbers_within (omega (arith, a, b))))

    bits_are : (place : Place) → bits_of j bits place ≡ count_in xs (number_of j place)
    bits_are place =
        let one : ℕ → ℕ = λ x. if x == number_of j place then 1 else 0 in
        sym (sum_map one (λ (b : Blamed). number_of j b.source) bits) ∙ ap (sum_by one) (sym orig_is)
        ∙ sym (sum_by-IsPermutation one orig xs moved)

    rows_once : (n : ℕ) → rows_for rows n ≡ one_if (nat_lt 0 (count_in xs n))
    rows_once n =
        sum_by-IsPermutation (λ (row : Counted). if row.1 == n then 1 else 0) counted rows sorted ∙ tally.once n

    pub table_is : IsSorted compared rows → IsBlameTable j bits (map (row_at j) rows)
    table_is order = record {
      places = places_there j fits rows rows_within;
      numbers = All-map (λ (row : Row). row.1 ≡ bits_of j bits row.0) (row_at j) rows
          (λ k d less. (let row = get_or rows k d in
          let counts = All-permutation (λ (r : Counted). r.0.0 ≡ count_in xs r.1) counted rows sorted tally.counts k d less in
          counts ∙ ap (count_in xs) (sym (number_at j fits row.1 (rows_within k d less))) ∙ sym (bits_are (place_at j row.1))));
      rows = λ place. rows_placed j fits rows (number_of j place) rows_within ∙ rows_once (number_of j place)
          ∙ ap (λ (k : ℕ). one_if (nat_lt 0 k)) (sym (bits_are place));
      order = rows_order j fits rows rows_within order
          (λ n. at_most_one (rows_for rows n) (nat_lt 0 (count_in xs n)) (rows_once n));
      total = sum_map (λ (row : Row). row.1) (row_at j) rows
          ∙ sum_by-IsPermutation (λ (r : Counted). r.0.0) counted rows sorted ∙ tally.total
          ∙ length_permutation orig xs moved ∙ ap length orig_is
          ∙ length_map (λ (b : Blamed). number_of j b.source) bits;
    }
