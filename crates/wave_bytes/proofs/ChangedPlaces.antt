-- Rows of places that go from step to step.
use Rattle.std.proofs.Common.{◌≡◌, ℕ, ◌+◌, ◌-◌, ◌*◌, ◌≤◌, ◌<◌, List, [], ◌∷◌, ◌++◌, length, map, slice_index_or, sym}
use Rattle.std.proofs.Common.{ap, ◌∙◌, arith, subst, ⊎_elim}
use Rattle.std.proofs.Math.ListN.{get_or-append}
use Rattle.std.proofs.Math.Seq.{get_or-append_right}
use Rattle.std.proofs.lemmas.Bool.{cases_eq, cases_lt}
use Rattle.std.proofs.lemmas.List.{get_or-map}
use Rattle.design_circuit.specs.Job.{Job}
use Rattle.design_circuit.specs.Waveform.{unwritten, written_at}
use Rattle.design_circuit.specs.declared.waveform.Written.{Written}
use Rattle.wave_bytes.specs.Byte.{written_of_byte}
use Rattle.wave_bytes.specs.Changed.{AreSameFrom, IsPut, IsRowAt, IsRowUpTo}
use Rattle.wave_bytes.specs.Kept.{AreRowsOf}
use Rattle.wave_bytes.specs.Rows.{AreAgain, RowsView}
use Rattle.wave_bytes.specs.View.{WaveformView, job}
use Rattle.wave_bytes.proofs.ByteDigits.{repeated_written}

-- A byte that is written again says what the one a row before does.
row_back : (w t q : ℕ) → 0 < t → t * w + q - w ≡ (t - 1) * w + q
row_back w t q some =
    let split : t ≡ t - 1 + 1 = omega (arith, some) in
    subst (λ n. n * w + q - w ≡ (t - 1) * w + q) (sym split) (back_one w (t - 1) q)
  where
    back_one : (w u q : ℕ) → (u + 1) * w + q - w ≡ u * w + q
    back_one w u q = omega arith

pub written_in_byte : (bytes : List ℕ) (k : ℕ) → k < length bytes
    → written_at (map written_of_byte bytes) k ≡ written_of_byte (slice_index_or bytes k 0)
written_in_byte bytes k less = get_or-map written_of_byte bytes k 0 unwritten less

more_rows : (w t : ℕ) → 0 < t → w ≤ t * w
more_rows w t some =
    let split : t ≡ t - 1 + 1 = omega (arith, some) in
    subst (λ n. w ≤ n * w) (sym split) (more w (t - 1))
  where
    more : (w u : ℕ) → w ≤ (u + 1) * w
    more w u = omega arith

pub same_from : (j : Job) (rows : RowsView) (step first next : ℕ) → AreRowsOf j rows → 0 < step
    → AreAgain rows (step * j.width + first) (step * j.width + next)
    → step * j.width + next ≤ length rows.bytes → AreSameFrom j (map written_of_byte rows.bytes) step first next
same_from j rows step first next are some again within = λ position from less.
    (let k : ℕ = step * j.width + position in
    let low : k < length rows.bytes = omega (arith, less, within) in
    let wide = more_rows j.width step some in
    let width = are.width in
    written_in_byte rows.bytes k low
    ∙ ap written_of_byte (again k (omega (arith, from)) (omega (arith, less)) (omega (arith, wide, width)))
    ∙ repeated_written (slice_index_or rows.bytes (k - rows.width) 0)
    ∙ ap (λ n. written_of_byte (slice_index_or rows.bytes n 0)) (ap (λ w. k - w) width
    ∙ row_back j.width step position some)
    ∙ sym (written_in_byte rows.bytes ((step - 1) * j.width + position)
    (let back = row_back j.width step position some in omega (arith, back, low))))

-- The row of a step is brought on from change to change.
pub row_begun : (v : WaveformView) (step : ℕ) (row : List Written) → IsRowAt v step row
    → (step + 2) * (job v).width ≤ length v.written → IsRowUpTo v step 0 row
row_begun v step row is whole = record {
  long = is.long;
  later = λ position inside low. absurd (omega (arith, low));
  earlier = λ position inside up. is.says position inside (reach (job v).width step position (length v.written) inside whole);
}
  where
    reach : (w t q n : ℕ) → q < w → (t + 2) * w ≤ n → t * w + q < n
    reach w t q n low up = omega (arith, low, up)

pub row_done : (v : WaveformView) (step end : ℕ) (row : List Written) → IsRowUpTo v step end row
    → (job v).width ≤ end → IsRowAt v (step + 1) row
row_done v step end row is all = record {
  long = is.long;
  says = λ position inside reached. is.later position inside (omega (arith, inside, all));
}

pub row_on : (v : WaveformView) (step position changed : ℕ) (row new : List Written) → IsRowUpTo v step position row
    → position ≤ changed → AreSameFrom (job v) v.written (step + 1) position changed
    → IsPut v (step + 1) changed row new → IsRowUpTo v step (changed + 1) new
row_on v step position changed row new is from same put = record {
  long = put.long ∙ is.long;
  later = λ q inside low. ⊎_elim
      (λ (here : q ≡ changed). subst (λ n. written_at new n ≡ written_at v.written ((step + 1) * (job v).width + n))
      (sym here) (put.here (let long = is.long in omega (arith, here, inside, long))))
      (λ (other : q ≡ changed → ⊥). put.others q other ∙ ⊎_elim
      (λ (old : q < position). is.later q inside old)
      (λ (up : position ≤ q). is.earlier q inside up
      ∙ ap (λ t. written_at v.written (t * (job v).width + q)) (one step)
      ∙ sym (same q up (omega (arith, low, other)))) (cases_lt q position))
      (cases_eq q changed);
  earlier = λ q inside up. put.others q (λ here. omega (arith, here, up)) ∙ is.earlier q inside (omega (arith, up, from));
}
  where
    one : (t : ℕ) → t ≡ t + 1 - 1
    one t = omega arith

-- A row of the first step, with the next place.
pub row_more : (written row new : List Written) (here : Written) (p : ℕ) → length row ≡ p
    → ((q : ℕ) → q < p → q < length written → written_at row q ≡ written_at written q)
    → (p < length written → here ≡ written_at written p) → new ≡ row ++ here ∷ []
    → (q : ℕ) → q < p + 1 → q < length written → written_at new q ≡ written_at written q
row_more written row new here p long says said is = λ q less reached. ap (λ ws. written_at ws q) is
    ∙ ⊎_elim
    (λ (low : q < p). get_or-append row (here ∷ []) unwritten q (omega (arith, low, long)) ∙ says q low reached)
    (λ (up : p ≤ q). (let same : p ≡ q = omega (arith, up, less) in
    get_or-append_right row (here ∷ []) q unwritten (omega (arith, up, long))
    ∙ ap (λ k. written_at (here ∷ []) k) (first q (length row) (omega (arith, same, long)))
    ∙ said (omega (arith, same, reached)) ∙ ap (written_at written) same))
    (cases_lt q p)
  where
    first : (q n : ℕ) → q ≡ n → q - n ≡ 0
    first q n same = omega (arith, same)
