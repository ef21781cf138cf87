-- The places of a step that were written anew.
use Rattle.std.proofs.Common.{◌≡◌, ℕ, zero, suc, ◌+◌, ◌-◌, ◌*◌, ◌≤◌, ◌<◌, ◌==◌, List, length, map, nat_lt, refl, slice_set, sym, ap}
use Rattle.std.proofs.Common.{◌∙◌, arith, subst, ⊎_elim}
use Rattle.std.proofs.lemmas.Bool.{cases_lt, le-ltb, lt-ltb, ne_eqb}
use Rattle.std.proofs.lemmas.Grind.{get_or-set_at}
use Rattle.std.proofs.lemmas.List.{get_or-set_other, length-set}
use Rattle.design_circuit.specs.Job.{Job}
use Rattle.design_circuit.specs.Waveform.{unwritten, written_at}
use Rattle.design_circuit.specs.declared.waveform.Written.{Written}
use Rattle.wave_bytes.specs.Anew.{anew_number, anew_written, nth_anew, number_behind, number_next}
use Rattle.wave_bytes.specs.Byte.{written_of_byte}
use Rattle.wave_bytes.specs.Changed.{AreAnewAt, AreSameFrom, IsPut, IsRowAt, IsRowUpTo, anew_behind, anew_next, anew_position}
use Rattle.wave_bytes.specs.Kept.{AreRowsOf}
use Rattle.wave_bytes.specs.Rows.{AreAgain, AreAnewBetween, RowsView}
use Rattle.wave_bytes.specs.View.{WaveformView, job}
use Rattle.wave_bytes.specs.declared.anew.Anew.{Anew}
use Rattle.wave_bytes.proofs.ChangedPlaces.{row_on, same_from, written_in_byte}
use Rattle.wave_bytes.proofs.NotedPlaces.{behind_more, next_by, next_none, next_some}

-- The position behind one place more.
pub position_more : (j : Job) (step : ℕ) (places : List Anew) (i : ℕ)
    → anew_behind j step places (i + 1) ≡ anew_position j step places i + 1
position_more j step places i =
    (next_by (i + 1 == 0) 0 (anew_position j step places (i + 1 - 1) + 1)).1 (ne_eqb (i + 1) 0 (λ is. omega (arith, is)))
    ∙ ap (λ k. anew_position j step places k + 1) (let back : i + 1 - 1 ≡ i = omega arith in back)

-- Where a place is the next one, and where there is none.
pub position_next : (j : Job) (step : ℕ) (places : List Anew) (i : ℕ) → i < length places
    → anew_next j step places i ≡ anew_position j step places i
position_next j step places i less = (next_by (nat_lt i (length places)) (anew_position j step places i) j.width).0
    (lt-ltb i (length places) less)

pub position_end : (j : Job) (step : ℕ) (places : List Anew) (i : ℕ) → length places ≤ i
    → anew_next j step places i ≡ j.width
position_end j step places i up = (next_by (nat_lt i (length places)) (anew_position j step places i) j.width).1
    (le-ltb i (length places) up)

pub anew_of_step : (j : Job) (rows : RowsView) (step : ℕ) (places : List Anew) → AreRowsOf j rows → 0 < step
    → (step + 1) * j.width ≤ length rows.bytes
    → AreAnewBetween rows (step * j.width) (step * j.width + j.width) places
    → AreAnewAt j (map written_of_byte rows.bytes) step places
anew_of_step j rows step places are later whole is = record {
  start = λ i low. (let from = from_start i (omega (arith, low)) in let up = is.rising i low in omega (arith, from, up));
  inside = λ i low. (let from = from_start i (omega (arith, low)) in let up = is.rising i low in
      let in_step = is.inside i low in omega (arith, from, up, in_step));
  rising = λ i low. (let behind = behind_is i (omega (arith, low)) in let up = is.rising i low in omega (arith, behind, up));
  says = λ i low. (let in_step = is.inside i low in ap written_of_byte (is.bytes i low)
      ∙ sym (written_in_byte rows.bytes (anew_number (nth_anew places i)) (omega (arith, in_step, whole))));
  same = λ i low. same_from j rows step (anew_behind j step places i) (anew_next j step places i) are later
      (subst (λ a. AreAgain rows a (step * j.width + anew_next j step places i)) (sym (behind_is i low))
      (subst (λ b. AreAgain rows (number_behind start places i) b) (sym (next_is i low)) (is.between i low)))
      (let end = next_low i low in let e = next_is i low in omega (arith, end, e, whole));
}
  where
    start : ℕ
    start = step * j.width

    from_start : (i : ℕ) → i ≤ length places → start ≤ number_behind start places i
    from_start zero low = omega arith
    from_start (suc i) low =
        let from = from_start i (omega (arith, low)) in
        let up = is.rising i (omega (arith, low)) in
        let more : number_behind start places (suc i) ≡ anew_number (nth_anew places i) + 1 =
        subst (λ k. number_behind start places k ≡ anew_number (nth_anew places i) + 1) (omega arith)
        (behind_more start places i) in
        omega (arith, from, up, more)

    behind_is : (i : ℕ) → i ≤ length places → start + anew_behind j step places i ≡ number_behind start places i
    behind_is zero low = omega arith
    behind_is (suc i) low =
        let from = from_start i (omega (arith, low)) in
        let up = is.rising i (omega (arith, low)) in
        let more : number_behind start places (suc i) ≡ anew_number (nth_anew places i) + 1 =
        subst (λ k. number_behind start places k ≡ anew_number (nth_anew places i) + 1) (omega arith)
        (behind_more start places i) in
        let here : anew_behind j step places (suc i) ≡ anew_position j step places i + 1 =
        subst (λ k. anew_behind j step places k ≡ anew_position j step places i + 1) (omega arith)
        (position_more j step places i) in
        omega (arith, from, up, more, here)

    next_is : (i : ℕ) → i ≤ length places
        → start + anew_next j step places i ≡ number_next (start + j.width) places i
    next_is i low = ⊎_elim
        (λ (some : i < length places). (let from = from_start i low in let up = is.rising i some in
        let a = next_some (start + j.width) places i some in let b = position_next j step places i some in
        omega (arith, from, up, a, b)))
        (λ (none : length places ≤ i). (let a = next_none (start + j.width) places i none in
        let b = position_end j step places i none in omega (arith, a, b)))
        (cases_lt i (length places))

    next_low : (i : ℕ) → i ≤ length places → number_next (start + j.width) places i ≤ start + j.width
    next_low i low = ⊎_elim
        (λ (some : i < length places). (let a = next_some (start + j.width) places i some in
        let in_step = is.inside i some in omega (arith, a, in_step)))
        (λ (none : length places ≤ i). (let a = next_none (start + j.width) places i none in omega (arith, a)))
        (cases_lt i (length places))

-- What stands at a place is put into the row of its step.
pub put_row : (v : WaveformView) (step position : ℕ) (row : List Written) (here : Written)
    → here ≡ written_at v.written (step * (job v).width + position)
    → IsPut v step position row (slice_set row position here)
put_row v step position row here is = record {
  long = length-set row position here;
  here = λ less. get_or-set_at row position position here unwritten refl less ∙ is;
  others = λ other ne. get_or-set_other row position other here unwritten ne;
}

-- The row goes on past the next place.
pub row_past : (v : WaveformView) (step k : ℕ) (places : List Anew) (row : List Written) (here : Written)
    → AreAnewAt (job v) v.written (step + 1) places → k < length places
    → here ≡ anew_written (nth_anew places k)
    → IsRowUpTo v step (anew_behind (job v) (step + 1) places k) row
    → IsRowUpTo v step (anew_behind (job v) (step + 1) places (k + 1))
    (slice_set row (anew_position (job v) (step + 1) places k) here)
row_past v step k places row here are low is row_is =
    let p = anew_position (job v) (step + 1) places k in
    let new = slice_set row p here in
    subst (λ q. IsRowUpTo v step q new) (sym (position_more (job v) (step + 1) places k))
    (row_on v step (anew_behind (job v) (step + 1) places k) p row new row_is (are.rising k low)
    (subst (λ q. AreSameFrom (job v) v.written (step + 1) (anew_behind (job v) (step + 1) places k) q)
    (position_next (job v) (step + 1) places k low) (are.same k (omega (arith, low))))
    (put_row v (step + 1) p row here (is ∙ are.says k low
    ∙ ap (written_at v.written) (let start = are.start k low in
    let whole : anew_number (nth_anew places k) ≡ (step + 1) * (job v).width + p = omega (arith, start) in whole))))

-- Behind the last place all are as a step before.
pub row_ends : (v : WaveformView) (step k : ℕ) (places : List Anew) (row : List Written)
    → AreAnewAt (job v) v.written (step + 1) places → k ≡ length places
    → IsRowUpTo v step (anew_behind (job v) (step + 1) places k) row → IsRowAt v (step + 1) row
row_ends v step k places row are end is = record {
  long = is.long;
  says = λ q inside reached. ⊎_elim (λ (old : q < behind). is.later q inside old)
      (λ (up : behind ≤ q). is.earlier q inside up ∙ ap (λ t. written_at v.written (t * (job v).width + q)) (one step)
      ∙ sym (are.same k (omega (arith, end)) q up
      (let last = position_end (job v) (step + 1) places k (omega (arith, end)) in omega (arith, last, inside))))
      (cases_lt q behind);
}
  where
    behind : ℕ
    behind = anew_behind (job v) (step + 1) places k

    one : (t : ℕ) → t ≡ t + 1 - 1
    one t = omega arith
