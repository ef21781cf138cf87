-- The waits that are written lead from clock to clock.
use Rattle.std.proofs.Common.{◌≡◌, ℕ, zero, suc, ◌+◌, ◌-◌, ◌*◌, ◌/◌, ◌%◌, ◌<◌, ◌≤◌, ◌^◌, ◌==◌, Bool, true, false, None, Some, Err, List, ◌++◌, length, slice_index, refl, sym, ap, ◌∙◌, subst, arith, append_assoc, ⊎_elim, if◌then◌else◌}
use Rattle.std.specs.List.Sorted.{IsStrictlyIncreasing}
use Rattle.std.proofs.lemmas.Bool.{cases_lt, eqb-false, eqb-true, lt-ltb, ne_eqb}
use Rattle.std.proofs.lemmas.Nat.{div-add-mod'}
use Rattle.std.proofs.Math.Nat.{mod-lt, mul-le-mul_right}
use Rattle.design_circuit.specs.declared.force.Event.{Event}
use Rattle.design_circuit.specs.declared.stim.Stim.{Stim}
use Rattle.replay_code.specs.Clock.{clock_at, moment_at, moment_by}
use Rattle.replay_code.specs.Machine.{Progress, next, round_on, time_on, waited}
use Rattle.replay_code.specs.Written.{round_lines, wait_line, wait_lines}
use Rattle.replay_code.specs.declared.clock.Clock.{Clock}
use Rattle.replay_code.specs.declared.fault.CodeFault.TheVariants.{RoundPast}
use Rattle.replay_code.specs.declared.state.State.TheVariants.{Body, WaitEnd}
use Rattle.replay_code.proofs.Leading.{Leads}
use Rattle.replay_code.proofs.Moments.{moment_at_is, rises}
use Rattle.replay_code.proofs.Stepping.{moved, wait_leads}

-- the progress at another round
abbrev at_round : Progress → ℕ → Progress
at_round p round = record p { round = round }

not_last : (p : Progress) (at moment : ℕ) → p.round + 1 < p.code.stim.rounds → p.moment ≡ Some moment → waited p at 0 ≡ next WaitEnd (at_round p (p.round + 1))
not_last p at moment less at_moment =
    ap (round_on p at) at_moment
    ∙ ap (λ b. if b then Err (RoundPast at) else next WaitEnd (at_round p (p.round + 1))) (ne_eqb (p.round + 1) p.code.stim.rounds (λ same. omega (arith, same, less)))

-- So many waits lead on by so many rounds.
rounds_lead : (p : Progress) (moment count : ℕ) (rest : List ℕ) (events : List Event) → p.moment ≡ Some moment → p.round + count < p.code.stim.rounds → Leads p.code.text Body (at_round p (p.round + count)) rest events → Leads p.code.text Body p (round_lines count ++ rest) events
rounds_lead p moment zero rest events at_moment within leads =
    let here : p.round + 0 ≡ p.round = omega arith in
    subst (λ r. Leads p.code.text Body (at_round p r) rest events) here leads
rounds_lead p moment (suc count) rest events at_moment within leads =
    let less : p.round + 1 < p.code.stim.rounds = omega (arith, within) in
    let there : p.round + suc count ≡ p.round + 1 + count = omega arith in
    subst (λ (l : List ℕ). Leads p.code.text Body p l events) (sym (append_assoc (wait_line 0) (round_lines count) rest))
    (wait_leads p 0 p.time p.moment (p.round + 1) (round_lines count ++ rest) events (omega arith) (λ at. not_last p at moment less at_moment)
    (rounds_lead (at_round p (p.round + 1)) moment count rest events at_moment (omega (arith, within))
    (subst (λ r. Leads p.code.text Body (at_round p r) rest events) there leads)))

-- One clock comes before another, or is that.
pub record IsBefore (from to : Clock) : Type 0 where
  pub time : from.time ≤ to.time
  pub round : from.time ≡ to.time → from.round ≤ to.round

-- A step of the stimulus has the moment of its time.
pub moment_there : (stim : Stim) (step : ℕ) → IsStrictlyIncreasing stim.times → step / stim.rounds < length stim.times → moment_at stim (slice_index stim.times (step / stim.rounds)) ≡ Some (step / stim.rounds)
moment_there stim step up within =
    sym (moment_at_is stim stim.times (slice_index stim.times (step / stim.rounds)) (step / stim.rounds) refl (λ i less. rises stim.times up i (step / stim.rounds) less within) within refl)

-- A later step has a later clock.
pub before_step : (stim : Stim) (from to : ℕ) → IsStrictlyIncreasing stim.times → from ≤ to → to / stim.rounds < length stim.times → IsBefore (clock_at stim from) (clock_at stim to)
before_step stim from to up order within = ⊎_elim (λ (h : from / stim.rounds < to / stim.rounds). later h) (λ (h : to / stim.rounds ≤ from / stim.rounds). same h) (cases_lt (from / stim.rounds) (to / stim.rounds))
  where
    first : from / stim.rounds * stim.rounds + from % stim.rounds ≡ from
    first = div-add-mod' from stim.rounds

    last : to / stim.rounds * stim.rounds + to % stim.rounds ≡ to
    last = div-add-mod' to stim.rounds

    later : from / stim.rounds < to / stim.rounds → IsBefore (clock_at stim from) (clock_at stim to)
    later h =
        let less = rises stim.times up (from / stim.rounds) (to / stim.rounds) h within in
        record { time = omega (arith, less); round = λ same. absurd (omega (arith, less, same)) }

    same : to / stim.rounds ≤ from / stim.rounds → IsBefore (clock_at stim from) (clock_at stim to)
    same h = by (let low = mod-lt from stim.some_round in ⊎_elim (λ (m : to / stim.rounds < from / stim.rounds). absurd (let more : (to / stim.rounds + 1) * stim.rounds ≤ from / stim.rounds * stim.rounds = mul-le-mul_right stim.rounds (omega (arith, m)) in let small = mod-lt to stim.some_round in omega (arith, more, first, last, order, small))) (λ (m : from / stim.rounds ≤ to / stim.rounds). omega (arith, m, h)) (cases_lt (to / stim.rounds) (from / stim.rounds)))
      where
        by : from / stim.rounds ≡ to / stim.rounds → IsBefore (clock_at stim from) (clock_at stim to)
        by moment = record {
          time = (let times = ap (slice_index stim.times) moment in omega (arith, times));
          round = λ times. (let rows = ap (λ n. n * stim.rounds) moment in omega (arith, rows, first, last, order));
        }

-- The waits that are written before a step lead to it.
pub waits_lead : (p : Progress) (from : Clock) (step : ℕ) (rest : List ℕ) (events : List Event) → IsStrictlyIncreasing p.code.stim.times → step / p.code.stim.rounds < length p.code.stim.times → (clock_at p.code.stim step).time < 2 ^ 64 → IsBefore from (clock_at p.code.stim step) → p.time ≡ from.time → p.moment ≡ moment_at p.code.stim from.time → p.round ≡ from.round → Leads p.code.text Body (moved p (clock_at p.code.stim step).time (Some (step / p.code.stim.rounds)) (clock_at p.code.stim step).round) rest events → Leads p.code.text Body p (wait_lines from (clock_at p.code.stim step) ++ rest) events
waits_lead p from step rest events up within small before time moment round leads = by (from.time == to.time) (eqb-true from.time to.time) (eqb-false from.time to.time)
  where
    to : Clock
    to = clock_at p.code.stim step

    there : moment_at p.code.stim to.time ≡ Some (step / p.code.stim.rounds)
    there = moment_there p.code.stim step up within

    low : to.round < p.code.stim.rounds
    low = mod-lt step p.code.stim.some_round

    same : from.time ≡ to.time → Leads p.code.text Body p (round_lines (to.round - from.round) ++ rest) events
    same times =
        let at_moment : p.moment ≡ Some (step / p.code.stim.rounds) = moment ∙ (ap (moment_at p.code.stim) times ∙ there) in
        let here : p.time ≡ to.time = time ∙ times in
        let few : from.round ≤ to.round = before.round times in
        let sum : p.round + (to.round - from.round) ≡ to.round = omega (arith, few, round) in
        rounds_lead p (step / p.code.stim.rounds) (to.round - from.round) rest events at_moment (omega (arith, sum, low))
        (subst (λ (q : Progress). Leads p.code.text Body q rest events) (λ k. moved p (sym here k) (sym at_moment k) (sym sum k)) leads)

    later : (from.time ≡ to.time → ⊥) → Leads p.code.text Body p ((wait_line (to.time - from.time) ++ round_lines to.round) ++ rest) events
    later other =
        let early : from.time ≤ to.time = before.time in
        let less : from.time < to.time = ⊎_elim (λ (h : from.time < to.time). h) (λ (h : to.time ≤ from.time). absurd (other (omega (arith, h, early)))) (cases_lt from.time to.time) in
        let d = to.time - from.time in
        let sum : p.time + d ≡ to.time = omega (arith, less, time) in
        let none : 0 + to.round ≡ to.round = omega arith in
        let some : (d == 0) ≡ false = ne_eqb d 0 (λ none. omega (arith, none, less)) in
        let q = moved p to.time (Some (step / p.code.stim.rounds)) 0 in
        subst (λ (l : List ℕ). Leads p.code.text Body p l events) (sym (append_assoc (wait_line d) (round_lines to.round) rest))
        (wait_leads p d to.time (Some (step / p.code.stim.rounds)) 0 (round_lines to.round ++ rest) events (omega (arith, small))
        (λ at. ap (λ b. if b then round_on p at p.moment else time_on p at (p.time + d) (moment_by p.code.stim (p.time + d))) some
        ∙ (ap (λ t. time_on p at t (moment_by p.code.stim t)) sum
        ∙ (ap (λ b. time_on p at to.time (if b then moment_at p.code.stim to.time else None)) (lt-ltb to.time (2 ^ 64) small)
        ∙ ap (time_on p at to.time) there)))
        (rounds_lead q (step / p.code.stim.rounds) to.round rest events refl (subst (λ r. r < p.code.stim.rounds) (sym none) low)
        (subst (λ r. Leads p.code.text Body (at_round q r) rest events) (sym none) leads)))

    by : (b : Bool) → (b ≡ true → from.time ≡ to.time) → (b ≡ false → from.time ≡ to.time → ⊥) → Leads p.code.text Body p ((if b then round_lines (to.round - from.round) else wait_line (to.time - from.time) ++ round_lines to.round) ++ rest) events
    by true equal other = same (equal refl)
    by false equal other = later (other refl)
