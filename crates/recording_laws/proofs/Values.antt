-- A value at a time is that in the moment of the time.
use Rattle.std.proofs.Common.{◌≡◌, ℕ, zero, suc, ◌<◌, ◌≤◌, true, false, List, [], ◌∷◌, length, map, refl, sym, ap, ◌∙◌, subst, arith, get_or, nat_le, ⊎_elim, add-one, if◌then◌else◌}
use Rattle.std.specs.List.Sorted.{IsStrictlyIncreasing}
use Rattle.std.specs.Prelude.{slice_index}
use Rattle.std.proofs.lemmas.Bool.{cases_lt}
use Rattle.std.proofs.lemmas.Bool.Decides.{nat_tests}
use Rattle.design_cell.specs.declared.value.Value.{Value}
use Rattle.recording_changes.specs.Held.{Change, bit_value, digit_value, extended, held, unknown}
use Rattle.recording_changes.specs.Last.{IsLastValue}
use Rattle.recording_changes.proofs.LastLemmas.{is_last_value}
use Rattle.recording_laws.proofs.Timing.{AreIn, stamp}

rises : (xs : List ℕ) → IsStrictlyIncreasing xs → (i k : ℕ) → i < k → k < length xs → get_or xs i 0 < get_or xs k 0
rises xs up i zero less within = absurd (omega arith)
rises xs up i (suc k) less within =
    let next : get_or xs k 0 < get_or xs (suc k) 0 = subst (λ (n : ℕ). get_or xs k 0 < get_or xs n 0) (add-one k) (up k (omega arith)) in
    ⊎_elim (λ (h : i < k). (let before : get_or xs i 0 < get_or xs k 0 = rises xs up i k h (omega arith) in omega (arith, before, next)))
    (λ (h : k ≤ i). (let same : i ≡ k = omega arith in rw same next)) (cases_lt i k)

le_is : (a b : ℕ) → a ≤ b → nat_le a b ≡ true
le_is a b h = grind (arith, nat_tests)

gt_is : (a b : ℕ) → b < a → nat_le a b ≡ false
gt_is a b h = grind (arith, nat_tests)

-- Moments stand in the order of their times.
in_order : (times : List ℕ) (i k : ℕ) → IsStrictlyIncreasing times → i < length times → k < length times → nat_le (get_or times i 0) (get_or times k 0) ≡ nat_le i k
in_order times i k up low high = ⊎_elim later earlier (cases_lt k i)
  where
    later : k < i → nat_le (get_or times i 0) (get_or times k 0) ≡ nat_le i k
    later less = gt_is (get_or times i 0) (get_or times k 0) (rises times up k i less low) ∙ sym (gt_is i k less)

    up_to : i ≤ k → get_or times i 0 ≤ get_or times k 0
    up_to more = ⊎_elim (λ (h : i < k). (let r = rises times up i k h high in omega (arith, r))) (λ (h : k ≤ i). (let same : i ≡ k = omega (arith, h, more) in let e = ap (λ n. get_or times n 0) same in omega (arith, e))) (cases_lt i k)

    earlier : i ≤ k → nat_le (get_or times i 0) (get_or times k 0) ≡ nat_le i k
    earlier more = le_is (get_or times i 0) (get_or times k 0) (up_to more) ∙ sym (le_is i k more)

held_at_time : (times : List ℕ) (moment : ℕ) (cs : List Change) (had : List ℕ) → IsStrictlyIncreasing times → moment < length times → AreIn times cs → held (slice_index times moment) (map (stamp times) cs) had ≡ held moment cs had
held_at_time times moment [] had up within are = refl
held_at_time times moment (c ∷ cs) had up within are =
    let same : nat_le (slice_index times c.moment) (slice_index times moment) ≡ nat_le c.moment moment = in_order times c.moment moment up (are 0 c (omega arith)) within in
    ap (λ b. held (slice_index times moment) (map (stamp times) cs) (if b then c.digits else had)) same
    ∙ held_at_time times moment cs (if nat_le c.moment moment then c.digits else had) up within (λ k d lt. are (suc k) d (omega (arith, lt)))

-- So the last change at the time or before it is the last in the moment or before it.
pub value_at_time : (times : List ℕ) (width bit moment : ℕ) (cs said : List Change) → IsStrictlyIncreasing times → moment < length times → bit < width → AreIn times cs → said ≡ map (stamp times) cs → IsLastValue said width bit (slice_index times moment) (bit_value cs width bit moment)
value_at_time times width bit moment cs said up within low are is =
    let one : bit_value said width bit (slice_index times moment) ≡ bit_value cs width bit moment =
    ap (λ (l : List Change). bit_value l width bit (slice_index times moment)) is
    ∙ ap (λ (ds : List ℕ). digit_value (slice_index (extended width ds) bit)) (held_at_time times moment cs unknown up within are) in
    subst (λ (v : Value). IsLastValue said width bit (slice_index times moment) v) one (is_last_value said width bit (slice_index times moment) low)
