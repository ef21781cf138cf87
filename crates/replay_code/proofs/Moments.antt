-- The moment at a time, where times ascend.
use Rattle.std.proofs.Common.{◌≡◌, ℕ, zero, suc, add-one, ◌<◌, ◌≤◌, ◌==◌, true, false, None, Some, List, length, get_or, sym, ap, ◌∙◌, subst, ⊎_elim, arith}
use Rattle.std.specs.List.Sorted.{IsStrictlyIncreasing}
use Rattle.std.proofs.lemmas.Bool.{cases_lt}
use Rattle.std.proofs.lemmas.Bool.Decides.{nat_tests}
use Rattle.design_circuit.specs.declared.stim.Stim.{Stim}
use Rattle.replay_code.specs.Clock.{moment_at}
use Rattle.replay_code.proofs.Places.{position_is, position_none}

pub rises : (xs : List ℕ) → IsStrictlyIncreasing xs → (i k : ℕ) → i < k → k < length xs → get_or xs i 0 < get_or xs k 0
rises xs up i zero less within = absurd (omega arith)
rises xs up i (suc k) less within =
    let next : get_or xs k 0 < get_or xs (suc k) 0 = subst (λ (n : ℕ). get_or xs k 0 < get_or xs n 0) (add-one k) (up k (omega arith)) in
    ⊎_elim (λ (h : i < k). (let before : get_or xs i 0 < get_or xs k 0 = rises xs up i k h (omega arith) in omega (arith, before, next)))
    (λ (h : k ≤ i). (let same : i ≡ k = omega arith in rw same next)) (cases_lt i k)

differs : (a b : ℕ) → a < b → (a == b) ≡ false
differs a b less = grind (arith, nat_tests)

exceeds : (a b : ℕ) → b < a → (a == b) ≡ false
exceeds a b more = grind (arith, nat_tests)

equals : (a b : ℕ) → a ≡ b → (a == b) ≡ true
equals a b same = grind (arith, nat_tests)

moment_is : (stim : Stim) (time k : ℕ) → ((i : ℕ) → i < k → get_or stim.times i 0 < time) → k < length stim.times → get_or stim.times k 0 ≡ time → Some k ≡ moment_at stim time
moment_is stim time k earlier within here =
    sym (position_is (λ at. at == time) stim.times k 0 within (λ i less. differs (get_or stim.times i 0) time (earlier i less)) (equals (get_or stim.times k 0) time here))

moment_none : (stim : Stim) (time k : ℕ) → IsStrictlyIncreasing stim.times → ((i : ℕ) → i < k → get_or stim.times i 0 < time) → (k < length stim.times → time < get_or stim.times k 0) → None ≡ moment_at stim time
moment_none stim time k up earlier later =
    sym (position_none (λ at. at == time) stim.times 0 (λ i within. ⊎_elim (λ (h : i < k). differs (get_or stim.times i 0) time (earlier i h)) (λ (h : k ≤ i). exceeds (get_or stim.times i 0) time (after i within h)) (cases_lt i k)))
  where
    after : (i : ℕ) → i < length stim.times → k ≤ i → time < get_or stim.times i 0
    after i within more =
        let first = later (omega (arith, within, more)) in
        ⊎_elim (λ (h : k < i). (let up = rises stim.times up k i h within in omega (arith, first, up))) (λ (h : i ≤ k). (let same : i ≡ k = omega (arith, h, more) in rw same first)) (cases_lt k i)

-- The same where a list is that of the times.
pub moment_at_is : (stim : Stim) (times : List ℕ) (time k : ℕ) → times ≡ stim.times → ((i : ℕ) → i < k → get_or stim.times i 0 < time) → k < length times → get_or times k 0 ≡ time → Some k ≡ moment_at stim time
moment_at_is stim times time k is earlier within here =
    moment_is stim time k earlier (let long = ap (λ (l : List ℕ). length l) is in omega (arith, long, within)) (ap (λ (l : List ℕ). get_or l k 0) (sym is) ∙ here)

pub moment_at_none : (stim : Stim) (times : List ℕ) (time k : ℕ) → IsStrictlyIncreasing stim.times → times ≡ stim.times → ((i : ℕ) → i < k → get_or stim.times i 0 < time) → (k < length times → time < get_or times k 0) → None ≡ moment_at stim time
moment_at_none stim times time k up is earlier later =
    moment_none stim time k up earlier (λ within.
    (let long = ap (λ (l : List ℕ). length l) is in
    let here = ap (λ (l : List ℕ). get_or l k 0) is in
    let low : time < get_or times k 0 = later (omega (arith, long, within)) in
    omega (arith, here, low)))
