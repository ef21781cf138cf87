-- The lines of a wave, by the numbers of their places.
use Rattle.std.proofs.Common.{◌≡◌, ℕ, zero, suc, ◌<◌, Some, List, [], ◌∷◌, length, refl, ◌∙◌, arith, slice_index, slice_index_or}
use Rattle.std.proofs.lemmas.Bool.{eq-eqb, ne_eqb}
use Rattle.std.proofs.lemmas.List.{length-map}
use Rattle.std.proofs.lemmas.List.Kept.{AllPairs-from_increasing}
use Rattle.design_circuit.specs.Filling.{IsFilling}
use Rattle.design_circuit.specs.Job.{Job, number_of}
use Rattle.law_model.specs.Stated.{body_at}
use Rattle.law_model.specs.Yields.{places_of_lines}
use Rattle.law_model.specs.declared.line.Line.{Line as ALine}
use Rattle.wave_proved.proofs.FoundLines.{lines_in_order}
use Rattle.wave_proved.specs.Contents.{Contents, IsWave, job}
use Rattle.wave_proved.specs.Pairs.{numbers_of}

-- Their places are those of the job's Line places, in place order.
pub lines_placed : (c : Contents) → IsWave c → IsFilling (job c) (places_of_lines c.lines)
lines_placed c wave =
    let ordered = lines_in_order c wave in
    record { places = ordered.places; ascending = ordered.ascending }

-- The first line of a number says what there is of it.
body_here : (j : Job) (lines : List ALine) (i : ℕ) (d : ALine) (number : ℕ) → i < length lines
    → ((k : ℕ) → k < i → slice_index (numbers_of j lines) k ≡ number → ⊥)
    → slice_index (numbers_of j lines) i ≡ number → body_at j lines number ≡ Some (slice_index_or lines i d).body
body_here j [] i d number within before is = absurd (omega arith)
body_here j (first ∷ lines) zero d number within before is = rw (eq-eqb (number_of j first.place) number is) refl
body_here j (first ∷ lines) (suc i) d number within before is =
    rw (ne_eqb (number_of j first.place) number (before zero (omega arith)))
    (body_here j lines i d number (omega arith) (λ k less. before (suc k) (omega arith)) is)

-- And each is the first of its number.
pub body_found : (c : Contents) (i : ℕ) (d : ALine) (number : ℕ) → IsWave c → i < length c.lines
    → slice_index (numbers_of (job c) c.lines) i ≡ number
    → body_at (job c) c.lines number ≡ Some (slice_index_or c.lines i d).body
body_found c i d number wave within is =
    body_here (job c) c.lines i d number within
    (λ k less same.
    (let long : length (numbers_of (job c) c.lines) ≡ length c.lines =
    length-map (places_of_lines c.lines) (number_of (job c)) ∙ length-map c.lines (λ (line : ALine). line.place) in
    let rises = AllPairs-from_increasing (numbers_of (job c) c.lines) (lines_placed c wave).ascending k i 0 less
    (omega (arith, within, long)) in
    omega (arith, rises, is, same))) is
