-- Counts of places that grow by one place, and by a step.
use Rattle.std.proofs.Common.{◌≡◌, ℕ, zero, suc, ◌+◌, ◌*◌, Bool, List, [], ◌∷◌, ◌++◌, length, refl, sym, ap, ◌∙◌, arith, add-one, add-zero}
use Rattle.std.proofs.lemmas.List.Sums.{sum_by_push}
use Rattle.std.specs.List.{range_with_len}
use Rattle.design_cell.specs.declared.value.Value.{Value}
use Rattle.design_cell.specs.declared.value.Value.TheVariants.{Zero, One, X, Z}
use Rattle.design_circuit.specs.Fits.{place_at}
use Rattle.design_circuit.specs.History.{held_in}
use Rattle.design_circuit.specs.Waveform.{written_at}
use Rattle.design_circuit.specs.declared.place.Place.{Place}
use Rattle.design_circuit.specs.declared.waveform.Mark.{Mark}
use Rattle.design_circuit.specs.declared.waveform.Mark.TheVariants.{Certain, Unknown, Undecided}
use Rattle.report_bits.specs.Counts.{count_among, count_where, counts_among, counts_below, counts_in, is_known_place, is_repaired, is_undecided, is_unknown_mark, one_if, total, with_counts, with_place}
use Rattle.report_bits.specs.declared.counts.Counts.{Counts}
use Rattle.wave_proved.specs.Contents.{Contents, job, shown_in}

-- one where the place of a number passes a test
abbrev pub one_at : (Mark → Value → Bool) → Contents → ℕ → ℕ
one_at test c number = one_if (test (written_at c.written number).mark (shown_in c number))

range_more : (a n : ℕ) → range_with_len a (suc n) ≡ range_with_len a n ++ (a + n) ∷ []
range_more a zero = let e : a + 0 ≡ a = omega arith in rw e refl
range_more a (suc n) =
    let e : a + 1 + n ≡ a + suc n = omega arith in
    ap (λ (l : List ℕ). a ∷ l) (range_more (a + 1) n ∙ ap (λ (m : ℕ). range_with_len (a + 1) n ++ m ∷ []) e)

pub among_more : (test : Mark → Value → Bool) (c : Contents) (first n : ℕ)
    → count_among test c first (n + 1) ≡ count_among test c first n + one_at test c (first + n)
among_more test c first n =
    let p : ℕ → Bool = λ place. test (written_at c.written place).mark (shown_in c place) in
    rw (add-one, range_more first n) (sum_by_push (λ place. one_if (p place)) (range_with_len first n) (first + n))

where_more : (test : Mark → Value → Bool) (c : Contents) (n : ℕ)
    → count_where test c (n + 1) ≡ count_where test c n + one_at test c n
where_more test c n =
    let e : 0 + n ≡ n = omega arith in
    among_more test c 0 n ∙ ap (λ (m : ℕ). count_where test c n + one_at test c m) e

-- The counts with the next place are those of a place more.
pub counts_more : (c : Contents) (n : ℕ)
    → counts_below c (n + 1) ≡ with_place (counts_below c n) (written_at c.written n).mark (shown_in c n)
counts_more c n =
    let unknown = where_more (λ mark shown. is_unknown_mark mark) c n in
    let undecided = where_more (λ mark shown. is_undecided mark) c n in
    rw (where_more is_known_place c n, where_more is_repaired c n, unknown, undecided) refl

among_counts : (c : Contents) (first n : ℕ) → counts_among c first (n + 1)
    ≡ with_place (counts_among c first n) (written_at c.written (first + n)).mark (shown_in c (first + n))
among_counts c first n =
    let unknown = among_more (λ mark shown. is_unknown_mark mark) c first n in
    let undecided = among_more (λ mark shown. is_undecided mark) c first n in
    rw (among_more is_known_place c first n, among_more is_repaired c first n, unknown, undecided) refl

-- With the place of a number the counts so far become those with it.
pub counted : (c : Contents) (number : ℕ) (place : Place) (counts grown : Counts) (mark : Mark) (shown : Value)
    → place ≡ place_at (job c) number → counts ≡ counts_below c number → mark ≡ (written_at c.written number).mark
    → shown ≡ (held_in c.history place).shown → grown ≡ with_place counts mark shown
    → grown ≡ counts_below c (number + 1)
counted c number place counts grown mark shown place_is counts_are mark_is shown_is grown_is =
    let shown_at : shown ≡ shown_in c number = shown_is ∙ ap (λ p. (held_in c.history p).shown) place_is in
    rw (grown_is, counts_are, mark_is, shown_at) (sym (counts_more c number))

-- A place more is counted once.
pub total_more : (counts : Counts) (mark : Mark) (shown : Value)
    → total (with_place counts mark shown) ≡ total counts + 1
total_more counts Certain Zero = omega arith
total_more counts Certain One = omega arith
total_more counts Certain X = omega arith
total_more counts Certain Z = omega arith
total_more counts Unknown shown = omega arith
total_more counts Undecided shown = omega arith

-- Each of so many places is counted.
pub total_among : (c : Contents) (first n : ℕ) → total (counts_among c first n) ≡ n
total_among c first zero = refl
total_among c first (suc n) =
    let more = among_counts c first n in
    ap (λ (m : ℕ). total (counts_among c first m)) (sym (add-one n)) ∙ ap total more
    ∙ total_more (counts_among c first n) (written_at c.written (first + n)).mark (shown_in c (first + n))
    ∙ ap (λ (m : ℕ). m + 1) (total_among c first n) ∙ add-one n

pub total_below : (c : Contents) (n : ℕ) → total (counts_below c n) ≡ n
total_below c n = total_among c 0 n

-- The places before a number and so many from it on are those before their end.
joined : (grown whole before more among one : ℕ) → grown ≡ whole + one → whole ≡ before + among → more ≡ among + one
    → grown ≡ before + more
joined grown whole before more among one a b c = omega (arith, a, b, c)

where_split : (test : Mark → Value → Bool) (c : Contents) (first n : ℕ)
    → count_where test c (first + n) ≡ count_where test c first + count_among test c first n
where_split test c first zero = ap (count_where test c) (add-zero first) ∙ sym (add-zero (count_where test c first))
where_split test c first (suc n) =
    let e : first + suc n ≡ first + n + 1 = omega arith in
    joined (count_where test c (first + suc n)) (count_where test c (first + n)) (count_where test c first)
    (count_among test c first (suc n)) (count_among test c first n) (one_at test c (first + n))
    (ap (count_where test c) e ∙ where_more test c (first + n)) (where_split test c first n)
    (ap (count_among test c first) (sym (add-one n)) ∙ among_more test c first n)

counts_split : (c : Contents) (first n : ℕ)
    → counts_below c (first + n) ≡ with_counts (counts_below c first) (counts_among c first n)
counts_split c first n =
    let unknown = where_split (λ mark shown. is_unknown_mark mark) c first n in
    let undecided = where_split (λ mark shown. is_undecided mark) c first n in
    rw (where_split is_known_place c first n, where_split is_repaired c first n, unknown, undecided) refl

-- With those of a step the counts so far become those with the step.
pub counted_step : (c : Contents) (step : ℕ) (counts more grown : Counts)
    → counts ≡ counts_below c (step * length c.design.nets) → more ≡ counts_in c step
    → grown ≡ with_counts counts more → grown ≡ counts_below c ((step + 1) * length c.design.nets)
counted_step c step counts more grown counts_are more_is grown_is =
    let w = length c.design.nets in
    let next : step * w + w ≡ (step + 1) * w = omega arith in
    grown_is ∙ ap (λ (k : Counts). with_counts k more) counts_are
    ∙ ap (λ (k : Counts). with_counts (counts_below c (step * w)) k) more_is ∙ sym (counts_split c (step * w) w)
    ∙ ap (counts_below c) next
