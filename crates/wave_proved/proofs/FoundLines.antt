-- Lines in place order, and how the line of a place is found in them.
use Rattle.std.proofs.Common.{◌≡◌, ℕ, zero, suc, ◌+◌, ◌<◌, ◌≤◌, None, List, [], ◌∷◌, length, sym, refl, ◌∙◌, arith}
use Rattle.std.proofs.Common.{subst, slice_index_or, ⊎_elim}
use Rattle.std.specs.Prelude.{slice_index}
use Rattle.std.specs.List.{AllByRecursion}
use Rattle.std.proofs.lemmas.Bool.{cases_eq, ne_eqb}
use Rattle.std.proofs.lemmas.List.{length-map}
use Rattle.std.proofs.lemmas.List.Kept.{AllPairs-from_increasing}
use Rattle.design_circuit.specs.Filling.{IsFilling, IsPlace}
use Rattle.design_circuit.specs.Job.{Job, number_of, places_of}
use Rattle.design_circuit.specs.Waveform.{certain}
use Rattle.design_circuit.proofs.Numbers.{filling_at}
use Rattle.law_model.specs.Class.{class_of}
use Rattle.law_model.specs.Stated.{body_at}
use Rattle.law_model.specs.Yields.{is_line, line_places, places_of_lines}
use Rattle.law_model.specs.declared.line.Line.{Line as ALine}
use Rattle.law_model.proofs.AssignmentNumbers.{along}
use Rattle.law_model.proofs.PlacesWhere.{picked_below, picked_rises}
use Rattle.wave_proved.specs.Contents.{Contents, IsWave, job}
use Rattle.wave_proved.specs.Pairs.{AreInOrder, numbers_of}

-- The lines of a wave stand in place order.
pub lines_in_order : (c : Contents) → IsWave c → AreInOrder (job c) c.lines
lines_in_order c wave = record { places = filling.places; ascending = filling.ascending }
  where
    numbers : List ℕ
    numbers = line_places (job c) (certain c.written) (length c.written)

    within : AllByRecursion (λ k. k < places_of (job c)) numbers
    within = let up = wave.holds.sound.within in
        along (λ k. k < length c.written) (λ k. k < places_of (job c)) numbers (λ k less. omega arith)
        (picked_below (λ place. is_line (class_of (job c) (certain c.written) place)) (length c.written))

    filling : IsFilling (job c) (places_of_lines c.lines)
    filling = subst (IsFilling (job c)) (sym wave.holds.yields.places)
        (filling_at (job c) numbers wave.fits.fits_job.ordering wave.fits.fits_job.all within
        (picked_rises (λ place. is_line (class_of (job c) (certain c.written) place)) (length c.written)))

pub numbers_long : (j : Job) (lines : List ALine) → length (numbers_of j lines) ≡ length lines
numbers_long j lines = length-map (places_of_lines lines) (number_of j)
    ∙ length-map lines (λ (line : ALine). line.place)

-- A line of them is of a place of the job, whose number stands where the line does.
pub place_here : (j : Job) (lines : List ALine) (i : ℕ) (d : ALine) → i < length lines
    → AllByRecursion (IsPlace j) (places_of_lines lines) → IsPlace j (slice_index_or lines i d).place
place_here j [] i d within all = absurd (omega arith)
place_here j (first ∷ lines) zero d within all = all.0
place_here j (first ∷ lines) (suc i) d within all = place_here j lines i d (omega arith) all.1

pub number_here : (j : Job) (lines : List ALine) (i : ℕ) (d : ALine) → i < length lines
    → slice_index (numbers_of j lines) i ≡ number_of j (slice_index_or lines i d).place
number_here j [] i d within = absurd (omega arith)
number_here j (first ∷ lines) zero d within = refl
number_here j (first ∷ lines) (suc i) d within = number_here j lines i d (omega arith)

-- Lines stand before a number up to one that does, and from one on that doesn't none does.
pub before_more : (j : Job) (lines : List ALine) (middle number : ℕ) → AreInOrder j lines → middle < length lines
    → slice_index (numbers_of j lines) middle < number
    → (k : ℕ) → k < middle + 1 → slice_index (numbers_of j lines) k < number
before_more j lines middle number order within less k low =
    ⊎_elim (λ (same : k ≡ middle). subst (λ i. slice_index (numbers_of j lines) i < number) (sym same) less)
    (λ (other : k ≡ middle → ⊥).
    (let long = numbers_long j lines in
    let rises = AllPairs-from_increasing (numbers_of j lines) order.ascending k middle 0 (omega arith) (omega arith) in
    omega (arith, rises, less))) (cases_eq k middle)

pub behind_more : (j : Job) (lines : List ALine) (middle number : ℕ) → AreInOrder j lines
    → number ≤ slice_index (numbers_of j lines) middle
    → (k : ℕ) → middle ≤ k → k < length lines → number ≤ slice_index (numbers_of j lines) k
behind_more j lines middle number order up k high within =
    ⊎_elim (λ (same : k ≡ middle). subst (λ i. number ≤ slice_index (numbers_of j lines) i) (sym same) up)
    (λ (other : k ≡ middle → ⊥).
    (let long = numbers_long j lines in
    let rises = AllPairs-from_increasing (numbers_of j lines) order.ascending middle k 0 (omega arith) (omega arith) in
    omega (arith, rises, up))) (cases_eq k middle)

-- No line is of a number that none of their places has.
pub no_body : (j : Job) (lines : List ALine) (number : ℕ)
    → ((k : ℕ) → k < length lines → slice_index (numbers_of j lines) k ≡ number → ⊥) → body_at j lines number ≡ None
no_body j [] number others = refl
no_body j (first ∷ lines) number others =
    rw (ne_eqb (number_of j first.place) number (others zero (omega arith)))
    (no_body j lines number (λ k less. others (suc k) (omega arith)))

-- So where all before a line stand before a number, and none behind it is of the number, it alone can be.
pub body_here : (j : Job) (lines : List ALine) (i : ℕ) (d : ALine) (number : ℕ) → i < length lines
    → ((k : ℕ) → k < i → slice_index (numbers_of j lines) k < number)
    → ((k : ℕ) → i < k → k < length lines → number < slice_index (numbers_of j lines) k)
    → body_at j lines number ≡ body_at j (slice_index_or lines i d ∷ []) number
body_here j [] i d number within before behind = absurd (omega arith)
body_here j (first ∷ lines) zero d number within before behind =
    rw (no_body j lines number (λ k less same. (let high = behind (suc k) (omega arith) (omega arith) in
    omega (arith, high, same)))) refl
body_here j (first ∷ lines) (suc i) d number within before behind =
    rw (ne_eqb (number_of j first.place) number (λ same. (let low = before zero (omega arith) in
    omega (arith, low, same))))
    (body_here j lines i d number (omega arith) (λ k less. before (suc k) (omega arith))
    (λ k high less. behind (suc k) (omega arith) (omega arith)))

-- Found by halves: the first line that doesn't stand before the number.
pub body_first : (j : Job) (lines : List ALine) (i : ℕ) (d : ALine) (number : ℕ) → AreInOrder j lines → i < length lines
    → ((k : ℕ) → k < i → slice_index (numbers_of j lines) k < number)
    → ((k : ℕ) → i ≤ k → k < length lines → number ≤ slice_index (numbers_of j lines) k)
    → body_at j lines number ≡ body_at j (slice_index_or lines i d ∷ []) number
body_first j lines i d number order within before behind =
    body_here j lines i d number within before
    (λ k high less. (let long = numbers_long j lines in
    let here = behind i (omega arith) within in
    let rises = AllPairs-from_increasing (numbers_of j lines) order.ascending i k 0 high (omega arith) in
    omega (arith, here, rises)))

pub body_behind : (j : Job) (lines : List ALine) (i number : ℕ) → length lines ≤ i
    → ((k : ℕ) → k < i → slice_index (numbers_of j lines) k < number) → body_at j lines number ≡ None
body_behind j lines i number past before =
    no_body j lines number (λ k less same. (let low = before k (omega arith) in omega (arith, low, same)))
