-- Events in order, and the values to which they force the nets.
use Rattle.std.proofs.Common.{◌≡◌, ◌≢◌, ◌-◌, ℕ, zero, suc, ◌+◌, ◌<◌, ◌≤◌, ◌==◌, ◌&&◌, Bool, true, false, cond, Option, None, Some, List, [], ◌∷◌, length, take, find, reverse, set, slice_index_or, nat_le, nat_lt, refl, sym, ap, ◌∙◌, arith, subst, add-zero, length-set, get_or-set_other, get_or-set_same, below_more, replicate, map, ◌*◌, ⊎_elim}
use Rattle.std.specs.Prelude.{option_and_then}
use Rattle.std.specs.List.{AllByRecursion}
use Rattle.std.proofs.lemmas.Bool.{cases_eq, cases_lt}
use Rattle.std.proofs.lemmas.Grind.{common_steps}
use Rattle.std.proofs.lemmas.List.{reverse-append, take_more, take_all, get_or-replicate, length-replicate, length-map, get_or-map}
use Rattle.std.proofs.lemmas.List.Kept.{AllPairs-from_increasing}
use Rattle.std.proofs.Math.Nat.{mul-le-mul_right}
use Rattle.design_circuit.specs.Filling.{IsPlace}
use Rattle.design_circuit.specs.Fits.{Fits}
use Rattle.design_circuit.specs.Job.{Job, number_of}
use Rattle.design_circuit.proofs.Rules.{position_in}
use Rattle.design_cell.specs.declared.value.Value.{Value}
use Rattle.design_circuit.specs.Force.{AreEvents, forced_at, is_up_to, place_of}
use Rattle.design_circuit.specs.declared.force.Event.{Event}
use Rattle.replay_history.specs.Forced.{last_forced, no_event, event_at, comes_up_to, AreOrdered, ChangesOnlyBy, HasTaken, HasForced}

-- With one event more, that one is looked at first.
find_more : (test : Event → Bool) (events : List Event) (n : ℕ) → n < length events → find test (reverse (take (n + 1) events)) ≡ cond (test (event_at events n)) (Some (event_at events n)) (find test (reverse (take n events)))
find_more test events n within = rw (take_more events n no_event within, reverse-append (take n events) (event_at events n ∷ [])) refl

here : (a b : ℕ) (x y : Option Event) → a ≡ b → cond (a == b) x y ≡ x
here a b x y same = grind (arith, common_steps)

other : (a b : ℕ) (x y : Option Event) → (a ≡ b → ⊥) → cond (a == b) x y ≡ y
other a b x y differ = grind (arith, common_steps)

early : (a b c d : ℕ) (x y : Option Event) → c ≤ d → cond ((a == b) && nat_le c d) x y ≡ cond (a == b) x y
early a b c d x y before = grind (arith, common_steps)

late : (a b c d : ℕ) (x y : Option Event) → d < c → cond ((a == b) && nat_le c d) x y ≡ y
late a b c d x y behind = grind (arith, common_steps)

-- With one event more its net has its value, and the others what they had.
last_here : (events : List Event) (n net : ℕ) → n < length events → (event_at events n).net ≡ net → last_forced (take (n + 1) events) net ≡ (event_at events n).value
last_here events n net within same =
    ap (option_and_then (λ (event : Event). event.value)) (find_more (λ event. event.net == net) events n within ∙ here (event_at events n).net net _ _ same)

last_other : (events : List Event) (n net : ℕ) → n < length events → ((event_at events n).net ≡ net → ⊥) → last_forced (take (n + 1) events) net ≡ last_forced (take n events) net
last_other events n net within differ =
    ap (option_and_then (λ (event : Event). event.value)) (find_more (λ event. event.net == net) events n within ∙ other (event_at events n).net net _ _ differ)

comes : (events : List Event) (n step : ℕ) → comes_up_to events n step ≡ true → (n < length events) × ((event_at events n).step ≤ step)
comes events n step is = both (length events) (event_at events n).step is
  where
    both : (long at : ℕ) → (nat_lt n long && nat_le at step) ≡ true → (n < long) × (at ≤ step)
    both long at is = grind (arith, common_steps)

ends : (events : List Event) (n step : ℕ) → comes_up_to events n step ≡ false → n < length events → step < (event_at events n).step
ends events n step is within = behind (length events) (event_at events n).step is within
  where
    behind : (long at : ℕ) → (nat_lt n long && nat_le at step) ≡ false → n < long → step < at
    behind long at is within = grind (arith, common_steps)

-- The event that comes next is taken.
pub taken_more : (nets : ℕ) (events : List Event) (step n : ℕ) (values : List (Option Value)) → AreOrdered nets events → comes_up_to events n step ≡ true → HasTaken nets events step n values → HasTaken nets events step (n + 1) (set values (event_at events n).net (event_at events n).value)
taken_more nets events step n values ordered is taken = record {
  few = omega (arith, next.0);
  up_to = below_more _ _ taken.up_to next.1;
  long = length-set values (event_at events n).net (event_at events n).value ∙ taken.long;
  last = λ net within. ⊎_elim (λ same. at_net net within same) (λ differ. elsewhere net within differ) (cases_eq (event_at events n).net net);
}
  where
    next : (n < length events) × ((event_at events n).step ≤ step)
    next = comes events n step is

    at_net : (net : ℕ) → net < nets → (event_at events n).net ≡ net → slice_index_or (set values (event_at events n).net (event_at events n).value) net None ≡ last_forced (take (n + 1) events) net
    at_net net within same =
        let room : net < length values = (let long = taken.long in omega (arith, long, within)) in
        rw (last_here events n net next.0 same, same, get_or-set_same) refl

    elsewhere : (net : ℕ) → net < nets → ((event_at events n).net ≡ net → ⊥) → slice_index_or (set values (event_at events n).net (event_at events n).value) net None ≡ last_forced (take (n + 1) events) net
    elsewhere net within differ =
        let apart : net ≢ (event_at events n).net = λ same. differ (sym same) in
        rw (last_other events n net next.0 differ, get_or-set_other) (taken.last net within)

-- Up to the step, each event counts.
find_early : (events : List Event) (step net n : ℕ) → n ≤ length events → ((i : ℕ) → i < n → (event_at events i).step ≤ step) → find (is_up_to step net) (reverse (take n events)) ≡ find (λ (event : Event). event.net == net) (reverse (take n events))
find_early events step net zero few up_to = refl
find_early events step net (suc n) few up_to =
    let e : suc n ≡ n + 1 = omega arith in
    let within : n < length events = omega arith in
    let event = event_at events n in
    let before = find_early events step net n (omega arith) (λ i less. up_to i (omega arith)) in
    let first = early event.net net event.step step (Some event) (find (is_up_to step net) (reverse (take n events))) (up_to n (omega arith)) in
    let rest = ap (λ found. cond (event.net == net) (Some event) found) before in
    rw e (find_more (is_up_to step net) events n within ∙ first ∙ rest ∙ sym (find_more (λ event. event.net == net) events n within))

forced_early : (events : List Event) (step net n : ℕ) → n ≤ length events → ((i : ℕ) → i < n → (event_at events i).step ≤ step) → forced_at (take n events) step net ≡ last_forced (take n events) net
forced_early events step net n few up_to = ap (option_and_then (λ (event : Event). event.value)) (find_early events step net n few up_to)

-- Behind it none does.
forced_late : (events : List Event) (step net n more : ℕ) → n + more ≤ length events → ((i : ℕ) → n ≤ i → i < length events → step < (event_at events i).step) → find (is_up_to step net) (reverse (take (n + more) events)) ≡ find (is_up_to step net) (reverse (take n events))
forced_late events step net n zero few behind = rw add-zero refl
forced_late events step net n (suc more) few behind =
    let e : n + suc more ≡ (n + more) + 1 = omega arith in
    let within : n + more < length events = omega arith in
    let event = event_at events (n + more) in
    let last = late event.net net event.step step (Some event) (find (is_up_to step net) (reverse (take (n + more) events))) (behind (n + more) (omega arith) within) in
    rw e (find_more (is_up_to step net) events (n + more) within ∙ last ∙ forced_late events step net n more (omega arith) behind)

pub all_taken : (nets : ℕ) (events : List Event) (step n : ℕ) (values : List (Option Value)) → AreOrdered nets events → comes_up_to events n step ≡ false → HasTaken nets events step n values → HasForced nets events step values
all_taken nets events step n values ordered is taken = record {
  long = taken.long;
  value = λ net within. taken.last net within ∙ sym (forced net);
}
  where
    behind : (i : ℕ) → n ≤ i → i < length events → step < (event_at events i).step
    behind i from within =
        let first : n < length events = omega arith in
        let next = ends events n step is first in
        ⊎_elim (λ same. subst (λ k. step < (event_at events k).step) same next) (λ differ. (let rises = ordered.steps n i (omega arith) within in omega (arith, rises, next))) (cases_eq n i)

    forced : (net : ℕ) → forced_at events step net ≡ last_forced (take n events) net
    forced net =
        let few = taken.few in
        let all : n + (length events - n) ≡ length events = omega (arith, few) in
        let whole : take (n + (length events - n)) events ≡ events = rw all (take_all (length events) events (omega arith)) in
        let late = forced_late events step net n (length events - n) (omega (arith, all)) behind in
        ap (λ es. forced_at es step net) (sym whole) ∙ ap (option_and_then (λ (event : Event). event.value)) late ∙ forced_early events step net n few taken.up_to

all_at : (P : Event → Type 0) (events : List Event) (i : ℕ) (d : Event) → AllByRecursion P events → i < length events → P (slice_index_or events i d)
all_at P [] i d all within = absurd (omega arith)
all_at P (event ∷ events) zero d all within = all.0
all_at P (event ∷ events) (suc i) d all within = all_at P events i d all.1 (omega arith)

-- With one event more the values change at its net too.
pub elsewhere_more : (events : List Event) (from n : ℕ) (old new : List (Option Value)) (value : Option Value) → from ≤ n → ChangesOnlyBy events from n old new → ChangesOnlyBy events from (n + 1) old (set new (event_at events n).net value)
elsewhere_more events from n old new value grows changes net none =
    let apart : net ≢ (event_at events n).net = λ same. none n grows (omega arith) (sym same) in
    rw get_or-set_other (changes net (λ i low high. none i low (omega (arith, high))))

-- Before the first step no event is taken.
pub none_taken : (nets : ℕ) (events : List Event) → HasTaken nets events 0 0 (replicate nets None)
none_taken nets events = record {
  few = omega arith;
  up_to = λ i less. absurd (omega arith);
  long = length-replicate nets None;
  last = λ net within. get_or-replicate nets net None None within;
}

-- What is taken up to a step is taken up to the next one.
pub taken_later : (nets : ℕ) (events : List Event) (step n : ℕ) (values : List (Option Value)) → HasTaken nets events step n values → HasTaken nets events (step + 1) n values
taken_later nets events step n values taken = record {
  few = taken.few;
  up_to = λ i less. (let before = taken.up_to i less in omega (arith, before));
  long = taken.long;
  last = taken.last;
}

step_rises : (w s t p q : ℕ) → s * w + p < t * w + q → p < w → q < w → s ≤ t
step_rises w s t p q less low high = ⊎_elim (λ earlier. absurd (let more : (t + 1) * w ≤ s * w = mul-le-mul_right w (omega arith) in omega (arith, more, less, low, high))) (λ later. later) (cases_lt t s)

-- The events of a job come in order.
pub in_order : (j : Job) → Fits j → (events : List Event) → AreEvents j events → AreOrdered j.width events
in_order j fits events are = record {
  steps = λ i k before within. rising i k before within;
  within = λ i less. (is_place i less).net;
}
  where
    is_place : (i : ℕ) → i < length events → IsPlace j (place_of (event_at events i))
    is_place i less = all_at (λ event. IsPlace j (place_of event)) events i no_event are.places less

    rising : (i k : ℕ) → i < k → k < length events → (event_at events i).step ≤ (event_at events k).step
    rising i k before within =
        let number : Event → ℕ = λ event. number_of j (place_of event) in
        let long = length-map events number in
        let low = AllPairs-from_increasing (map number events) are.ascending i k 0 before (omega (arith, long)) in
        let first = get_or-map number events i no_event 0 (omega arith) in
        let second = get_or-map number events k no_event 0 within in
        let a = position_in j fits (event_at events i).net (is_place i (omega arith)).net in
        let b = position_in j fits (event_at events k).net (is_place k within).net in
        step_rises j.width _ _ _ _ (omega (arith, low, first, second)) a b
