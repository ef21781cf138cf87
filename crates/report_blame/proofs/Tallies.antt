-- Counts of ascending numbers, run by run.
use Rattle.std.proofs.Common.{◌≡◌, ◌≢◌, ℕ, zero, suc, ◌+◌, ◌-◌, ◌<◌, ◌≤◌, ◌==◌, Bool, true, false, List, [], ◌∷◌, ◌++◌, All, length, get_or, take, if◌then◌else◌, nat_lt, slice_index, refl, sym, ap, ◌∙◌, arith}
use Rattle.std.specs.List.Sorted.{IsNonDecreasing}
use Rattle.std.proofs.lemmas.Bool.{lt-ltb, ne_eqb}
use Rattle.std.proofs.lemmas.Bool.Decides.{Decides-eqb}
use Rattle.std.proofs.lemmas.List.{length-take}
use Rattle.std.proofs.lemmas.List.Elements.{All-push}
use Rattle.std.proofs.lemmas.List.Sums.{sum_by_more, sum_by_push}
use Rattle.report_bits.specs.Counts.{one_if}
use Rattle.report_blame.specs.Tally.{Counted, IsRun, IsTally, count_in}

-- A run adds its length to the count of its number, and nothing to that of another.
count_run : (xs : List ℕ) (i m x n : ℕ) → i + m ≤ length xs → ((k : ℕ) → i ≤ k → k < i + m → get_or xs k 0 ≡ x)
    → count_in (take (i + m) xs) n ≡ count_in (take i xs) n + (if x == n then m else 0)
count_run xs i zero x n within same =
    let none : i + 0 ≡ i = omega arith in
    ap (λ (k : ℕ). count_in (take k xs) n) none ∙ by (x == n)
  where
    by : (b : Bool) → count_in (take i xs) n ≡ count_in (take i xs) n + (if b then 0 else 0)
    by true = omega arith
    by false = omega arith
count_run xs i (suc m) x n within same =
    let next : i + suc m ≡ i + m + 1 = omega arith in
    let here = same (i + m) (omega arith) (omega arith) in
    let before = count_run xs i m x n (omega (arith, within)) (λ k low less. same k low (omega (arith, less))) in
    ap (λ (k : ℕ). count_in (take k xs) n) next
    ∙ sum_by_more (λ (y : ℕ). if y == n then 1 else 0) xs (i + m) 0 (omega (arith, within))
    ∙ ap (λ (y : ℕ). count_in (take (i + m) xs) n + (if y == n then 1 else 0)) here
    ∙ ap (λ (k : ℕ). k + (if x == n then 1 else 0)) before ∙ by (x == n)
  where
    by : (b : Bool) → count_in (take i xs) n + (if b then m else 0) + (if b then 1 else 0)
        ≡ count_in (take i xs) n + (if b then suc m else 0)
    by true = omega arith
    by false = omega arith

-- A number that isn't among the first doesn't count there.
count_none : (xs : List ℕ) (i n : ℕ) → i ≤ length xs → ((k : ℕ) → k < i → get_or xs k 0 ≢ n)
    → count_in (take i xs) n ≡ 0
count_none xs zero n within none = refl
count_none xs (suc i) n within none =
    let next : suc i ≡ i + 1 = omega arith in
    let other = ne_eqb (get_or xs i 0) n (none i (omega arith)) in
    let before = count_none xs i n (omega (arith, within)) (λ k less. none k (omega (arith, less))) in
    ap (λ (k : ℕ). count_in (take k xs) n) next
    ∙ sum_by_more (λ (y : ℕ). if y == n then 1 else 0) xs i 0 (omega (arith, within))
    ∙ ap (λ (b : Bool). count_in (take i xs) n + (if b then 1 else 0)) other ∙ rw before refl

-- A number counts once more where it stands there.
once_more : (was added : ℕ) (b : Bool) → 0 < added → (b ≡ true → was ≡ 0)
    → one_if (nat_lt 0 was) + one_if b ≡ one_if (nat_lt 0 (was + (if b then added else 0)))
once_more was added true some none =
    let gone = none refl in
    let more : 0 < was + added = omega (arith, some) in
    rw (lt-ltb 0 (was + added) more, gone) refl
once_more was added false some none =
    let same : was + 0 ≡ was = omega arith in
    let one : one_if (nat_lt 0 was) + 0 ≡ one_if (nat_lt 0 was) = omega arith in
    rw (same, one) refl

pub tally_more : (xs : List ℕ) (rows more : List Counted) (row : Counted) (i j : ℕ) → IsTally (take i xs) rows
    → ((k : ℕ) → k < i → slice_index xs k ≢ slice_index xs i) → IsRun xs i j → row.0.0 ≡ j - i
    → row.1 ≡ slice_index xs i → more ≡ rows ++ row ∷ [] → IsTally (take j xs) more
tally_more xs rows more row i j tally apart run count number is = rw is (record {
  counts = All-push (λ (r : Counted). r.0.0 ≡ count_in (take j xs) r.1) rows row kept
      (count ∙ sym (counted row.1 ∙ added));
  some = All-push (λ (r : Counted). 0 < r.0.0) rows row tally.some (omega (arith, count, some));
  once = λ n. sum_by_push (λ (r : Counted). if r.1 == n then 1 else 0) rows row
      ∙ ap (λ (k : ℕ). k + one_if (row.1 == n)) (tally.once n)
      ∙ once_more (count_in (take i xs) n) (j - i) (row.1 == n) (omega (arith, some)) (λ same.
      ap (count_in (take i xs)) (sym ((Decides-eqb row.1 n).0 same)) ∙ none)
      ∙ ap (λ (k : ℕ). one_if (nat_lt 0 k)) (sym (counted n));
  total = sum_by_push (λ (r : Counted). r.0.0) rows row ∙ rw (tally.total, count)
      (omega (arith, some, in_list, length-take i xs, length-take j xs));
})
  where
    some : i < j
    some = run.some

    in_list : j ≤ length xs
    in_list = run.within

    span : i + (j - i) ≡ j
    span = omega (arith, run.some)

    counted : (n : ℕ) → count_in (take j xs) n ≡ count_in (take i xs) n + (if row.1 == n then j - i else 0)
    counted n =
        let low = run.some in
        let up = run.within in
        let whole : i + (j - i) ≡ j = omega (arith, low) in
        ap (λ (k : ℕ). count_in (take k xs) n) (sym whole)
        ∙ count_run xs i (j - i) row.1 n (omega (arith, whole, up))
        (λ k from less. run.same k from (omega (arith, less, whole)) ∙ sym number)

    none : count_in (take i xs) row.1 ≡ 0
    none =
        let low = run.some in
        let up = run.within in
        count_none xs i row.1 (omega (arith, low, up)) (λ k less same. apart k less (same ∙ number))

    added : count_in (take i xs) row.1 + (if row.1 == row.1 then j - i else 0) ≡ j - i
    added = rw (none, (Decides-eqb row.1 row.1).1 refl) (omega arith)

    kept : All (λ (r : Counted). r.0.0 ≡ count_in (take j xs) r.1) rows
    kept k d less =
        let r = get_or rows k d in
        let a = tally.counts k d less in
        let b = tally.some k d less in
        let other : row.1 ≢ r.1 = λ same. (let gone : count_in (take i xs) r.1 ≡ 0 =
        ap (count_in (take i xs)) (sym same) ∙ none in absurd (omega (arith, a, b, gone))) in
        let same : count_in (take j xs) r.1 ≡ count_in (take i xs) r.1 + 0 =
        counted r.1 ∙ ap (λ (e : Bool). count_in (take i xs) r.1 + (if e then j - i else 0)) (ne_eqb row.1 r.1 other) in
        omega (arith, a, same)

-- The number behind a run of ascending numbers is none of those before it.
pub apart_behind : (xs : List ℕ) (i j : ℕ) → IsNonDecreasing xs → IsRun xs i j → (k : ℕ) → k < j → j < length xs
    → slice_index xs k ≢ slice_index xs j
apart_behind xs i j up run k less in_list same =
    let some = run.some in
    let a = up k (j - 1) 0 (omega (arith, less)) (omega (arith, some, in_list)) in
    let b = run.same (j - 1) (omega (arith, some)) (omega (arith, some)) in
    let c = up i j 0 (omega (arith, some)) in_list in
    run.apart in_list (omega (arith, a, b, c, same))
