-- Lines that give a bit are those of certain Line places.
use Rattle.std.proofs.Common.{◌≡◌, ℕ, zero, suc, ◌+◌, ◌<◌, true, false, Some, List, [], ◌∷◌, length, map, refl, sym, ap, ◌∙◌, arith, subst, slice_index_or}
use Rattle.std.specs.List.{AllByRecursion}
use Rattle.std.specs.List.Sorted.{IsStrictlyIncreasing}
use Rattle.std.proofs.lemmas.Bool.{ne_eqb}
use Rattle.std.proofs.lemmas.List.{length-map}
use Rattle.std.proofs.lemmas.List.Kept.{AllPairs-from_increasing}
use Rattle.design_cell.specs.declared.value.Value.{Value}
use Rattle.design_cell.specs.Value.{is_unknown}
use Rattle.design_circuit.specs.declared.waveform.Written.{Written}
use Rattle.design_circuit.specs.Filling.{IsFilling, IsPlace}
use Rattle.design_circuit.specs.Job.{Job, number_of, places_of}
use Rattle.design_circuit.specs.Waveform.{certain, certain_by, written_at}
use Rattle.design_circuit.proofs.Numbers.{filling_at}
use Rattle.law_model.specs.Class.{class_of}
use Rattle.law_model.specs.Stated.{body_at}
use Rattle.law_model.specs.Yields.{is_line, line_of, line_places, places_of_lines, written_by}
use Rattle.law_model.specs.declared.class.ClassByNumber.{ClassByNumber}
use Rattle.law_model.specs.declared.class.ClassByNumber.TheVariants.{Local, Free, Carried, Line}
use Rattle.law_model.specs.declared.line.Body.{Body}
use Rattle.law_model.specs.declared.line.Body.TheVariants.{Enumerated, Refuted, Pair, Undecided}
use Rattle.law_model.specs.declared.line.Line.{Line as ALine}
use Rattle.law_model.proofs.LinesByPlace.{eqb_same, numbers_back}
use Rattle.law_model.proofs.PlacesWhere.{among_all, in_picked, picked_below, picked_rises}
use Rattle.wave_proved.specs.Contents.{Contents, IsWave, job, shown_in}
use Rattle.cert_turns.specs.Conditions.{IsCertainLine, gives_bit}

-- A place of a wave is that of a line.
record IsLineAt (c : Contents) (number : ℕ) : Type 0 where
  written : number < length c.written
  line : class_of (job c) (certain c.written) number ≡ Line

is_line_class : (class : ClassByNumber) → is_line class ≡ true → class ≡ Line
is_line_class (Local bit) is = cc
is_line_class Free is = cc
is_line_class (Carried from inverted) is = cc
is_line_class Line is = refl

lines_at : (c : Contents) → AllByRecursion (IsLineAt c) (line_places (job c) (certain c.written) (length c.written))
lines_at c = among_all (IsLineAt c) (line_places (job c) (certain c.written) (length c.written))
    (λ k here. (let parts = in_picked (λ place. is_line (class_of (job c) (certain c.written) place))
    (length c.written) k here in
    record { written = parts.0; line = is_line_class (class_of (job c) (certain c.written) k) parts.1 }))

-- What all numbers of lines have, and all their places.
number_there : (j : Job) (P : ℕ → Type 0) (lines : List ALine) (i : ℕ) (d : ALine) → i < length lines
    → AllByRecursion P (map (number_of j) (places_of_lines lines)) → P (number_of j (slice_index_or lines i d).place)
number_there j P [] i d less all = absurd (omega arith)
number_there j P (first ∷ lines) zero d less all = all.0
number_there j P (first ∷ lines) (suc i) d less all = number_there j P lines i d (omega arith) all.1

place_there : (j : Job) (lines : List ALine) (i : ℕ) (d : ALine) → i < length lines
    → AllByRecursion (IsPlace j) (places_of_lines lines) → IsPlace j (slice_index_or lines i d).place
place_there j [] i d less all = absurd (omega arith)
place_there j (first ∷ lines) zero d less all = all.0
place_there j (first ∷ lines) (suc i) d less all = place_there j lines i d (omega arith) all.1

number_at : (j : Job) (lines : List ALine) (i : ℕ) (d : ALine) → i < length lines
    → slice_index_or (map (number_of j) (places_of_lines lines)) i 0 ≡ number_of j (slice_index_or lines i d).place
number_at j [] i d less = absurd (omega arith)
number_at j (first ∷ lines) zero d less = refl
number_at j (first ∷ lines) (suc i) d less = number_at j lines i d (omega arith)

tail_rises : (n : ℕ) (ns : List ℕ) → IsStrictlyIncreasing (n ∷ ns) → IsStrictlyIncreasing ns
tail_rises n ns rises k less =
    let e : suc k + 1 ≡ suc (k + 1) = omega arith in
    subst (λ m. slice_index_or (n ∷ ns) (suc k) 0 < slice_index_or (n ∷ ns) m 0) e (rises (suc k) (omega (arith, less)))

-- The line of a place is found by its number.
body_there : (j : Job) (lines : List ALine) (i : ℕ) (d : ALine) → i < length lines
    → IsStrictlyIncreasing (map (number_of j) (places_of_lines lines))
    → body_at j lines (number_of j (slice_index_or lines i d).place) ≡ Some (slice_index_or lines i d).body
body_there j [] i d less rises = absurd (omega arith)
body_there j (first ∷ lines) zero d less rises =
    rw (eqb_same (number_of j first.place) (number_of j first.place) refl) refl
body_there j (first ∷ lines) (suc i) d less rises =
    let numbers : List ℕ = map (number_of j) (places_of_lines lines) in
    let long : length numbers ≡ length lines =
    length-map (places_of_lines lines) (number_of j) ∙ length-map lines (λ (line : ALine). line.place) in
    let low = AllPairs-from_increasing (number_of j first.place ∷ numbers) rises zero (suc i) 0 (omega arith)
    (omega (arith, long, less)) in
    let here = number_at j lines i d (omega (arith, less)) in
    rw (ne_eqb (number_of j first.place) (number_of j (slice_index_or lines i d).place)
    (λ same. omega (arith, same, low, here)))
    (body_there j lines i d (omega (arith, less)) (tail_rises (number_of j first.place) numbers rises))

-- What a line that gives a bit writes is known.
line_known : (body : Body) (shown : Value) → gives_bit body ≡ true
    → is_unknown (certain_by (line_of (Some body) shown).mark (line_of (Some body) shown).value) ≡ false
line_known (Enumerated false) shown is = refl
line_known (Enumerated true) shown is = refl
line_known (Refuted false log) shown is = refl
line_known (Refuted true log) shown is = refl
line_known (Pair first second) shown is = cc
line_known (Undecided log) shown is = cc

certain_known : (waveform : List Written) (place : ℕ) (written : Written) → written_at waveform place ≡ written
    → is_unknown (certain_by written.mark written.value) ≡ false → is_unknown (certain waveform place) ≡ false
unfolding certain
certain_known waveform place written is known =
    ap (λ (w : Written). is_unknown (certain_by w.mark w.value)) is ∙ known

pub settled_at : (c : Contents) (i : ℕ) (d : ALine) → IsWave c → i < length c.lines
    → gives_bit (slice_index_or c.lines i d).body ≡ true → IsCertainLine c (slice_index_or c.lines i d).place
settled_at c i d wave less gives = record {
  is_place = place_there j c.lines i d less places.places;
  written = at.written;
  line = at.line;
  known = certain_known c.written here (line_of (Some line.body) (shown_in c here))
      (wave.holds.yields.written here at.written
      ∙ ap (λ body. written_by (written_at c.written) (class_of j (certain c.written) here) body (shown_in c here))
      (body_there j c.lines i d less places.ascending)
      ∙ ap (λ class. written_by (written_at c.written) class (Some line.body) (shown_in c here)) at.line)
      (line_known line.body (shown_in c here) gives);
}
  where
    j : Job
    j = job c

    line : ALine
    line = slice_index_or c.lines i d

    here : ℕ
    here = number_of j line.place

    numbers : List ℕ
    numbers = line_places j (certain c.written) (length c.written)

    same : map (number_of j) (places_of_lines c.lines) ≡ numbers
    same = ap (map (number_of j)) wave.holds.yields.places
        ∙ numbers_back j wave.fits.fits_job (length c.written) numbers wave.holds.yields.within
        (picked_below (λ place. is_line (class_of j (certain c.written) place)) (length c.written))

    at : IsLineAt c here
    at = number_there j (IsLineAt c) c.lines i d less (subst (AllByRecursion (IsLineAt c)) (sym same) (lines_at c))

    places : IsFilling j (places_of_lines c.lines)
    places = subst (IsFilling j) (sym wave.holds.yields.places)
        (filling_at j numbers wave.fits.fits_job.ordering wave.fits.fits_job.all
        (among_all (λ k. k < places_of j) numbers (λ k within. (let parts = in_picked
        (λ place. is_line (class_of j (certain c.written) place)) (length c.written) k within in
        let up = wave.holds.yields.within in
        let low = parts.0 in omega (arith, low, up))))
        (picked_rises (λ place. is_line (class_of j (certain c.written) place)) (length c.written)))
