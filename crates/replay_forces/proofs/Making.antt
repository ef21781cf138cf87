-- Forces of values as they are made, place by place.
use Rattle.std.proofs.Common.{◌≡◌, ℕ, zero, suc, ◌+◌, ◌-◌, ◌*◌, ◌/◌, ◌%◌, ◌<◌, ◌≤◌, ◌==◌, Bool, true, false, Option, None, List, ◌++◌, set, slice_index, slice_index_or, refl, sym, ap, ◌∙◌, arith, subst, if◌then◌else◌}
use Rattle.std.proofs.lemmas.Nat.{div-add-mod', mod-mul-add}
use Rattle.std.proofs.Math.Nat.{mod-lt, mul-le-mul_right}
use Rattle.std.specs.List.{AllByRecursion}
use Rattle.design_cell.specs.declared.value.Value.{Value}
use Rattle.design_cell.specs.declared.value.Value.TheVariants.{X}
use Rattle.design_circuit.specs.Circuit.{IsSpot}
use Rattle.design_circuit.specs.Fits.{Fits, FitsDriver, StandsBefore}
use Rattle.design_circuit.specs.Job.{Job, at, net_of, places_of, step_of}
use Rattle.design_circuit.specs.Order.{arguments_of_driver, net_pins, position_of}
use Rattle.design_circuit.specs.Replay.{Held, blank, driven, kept, register_kept, seen, table_of}
use Rattle.design_circuit.specs.declared.spot.Spot.{Spot}
use Rattle.design_circuit.specs.declared.design.Driver.{Driver}
use Rattle.design_circuit.specs.declared.design.Driver.TheVariants.{Input, Undriven, Constant, Copy, Cell, Register}
use Rattle.design_circuit.specs.declared.design.Latching.{Latching}
use Rattle.design_circuit.specs.declared.force.Event.{Event}
use Rattle.design_circuit.proofs.OrderLemmas.{position_is}
use Rattle.design_circuit.proofs.Rules.{agree_on, new_below, old_below, some_width, spot, updated_reads}
use Rattle.replay_history.proofs.Replays.{pins_same}
use Rattle.replay_forces.specs.Changes.{change_at, changes, forced_before, unless_same}
use Rattle.replay_forces.specs.ForcesOf.{AreForcesOf, forcing, given_of, held_as, needed, showing}
use Rattle.replay_forces.specs.Made.{AreForcesTo, event_at}
use Rattle.replay_forces.proofs.Ordered.{all_from}
use Rattle.replay_forces.proofs.Rows.{later_step, made_more, row_at}
use Rattle.replay_forces.proofs.Showing.{forces_exist, showing_held, showing_next}

-- what the first places have where each shows its value
abbrev shown_to : Job → (ℕ → Value) → ℕ → ℕ → Held
shown_to j values n place = slice_index_or (showing j values n) place blank

-- Each of the first places shows its value.
shows : (j : Job) (values : ℕ → Value) (n k : ℕ) → k < n → (shown_to j values n k).shown ≡ values k
shows j values n k less = ap (λ (held : Held). held.shown) (showing_held j values n k less ∙ showing_next j values k)

-- Places show values as a function of places does.
abbrev ShowBelow : (ℕ → Held) → (ℕ → Value) → ℕ → Type 0
ShowBelow f values n = (k : ℕ) → k < n → (f k).shown ≡ values k

unless_first : (first : Bool) (start x y : Value) → (first ≡ false → x ≡ y) → (if first then start else x) ≡ (if first then start else y)
unless_first true start x y same = refl
unless_first false start x y same = same refl

-- A register at a place keeps what it would where its net kept this one step before.
register_seen : (j : Job) → Fits j → (f : ℕ → Held) (values : ℕ → Value) (was : Value) (step p net : ℕ) → net < j.width → (latching : Latching) → FitsDriver j.udps j.width (Register latching) → ShowBelow f values (step * j.width + p) → ((step == 0) ≡ false → (f (at j (step - 1) net)).kept ≡ was) → register_kept j f step net latching ≡ register_kept j (seen values was) step net latching
register_seen j fits f values was step p net within latching driver shown same =
    let n = step * j.width + p in
    let mine : ℕ → Value = λ k. (f k).shown in
    unless_first (step == 0) (j.start net) _ _ (λ later. updated_reads j mine values (f (at j (step - 1) net)).kept was step latching
    (agree_on mine values n _ shown (old_below j fits step p latching driver later))
    (agree_on mine values n _ shown (new_below j fits step p latching driver later))
    (same later))

-- Where a driver is a register, its net kept this one step before.
abbrev WasKept : (ℕ → Held) → Value → Job → ℕ → ℕ → Driver → Type 0
WasKept f was j step net driver = (latching : Latching) → driver ≡ Register latching → (step == 0) ≡ false → (f (at j (step - 1) net)).kept ≡ was

driven_seen : (j : Job) → Fits j → (f : ℕ → Held) (values : ℕ → Value) (was : Value) (step p net : ℕ) → net < j.width → (driver : Driver) → FitsDriver j.udps j.width driver → AllByRecursion (StandsBefore j p) (arguments_of_driver driver) → ShowBelow f values (step * j.width + p) → WasKept f was j step net driver → driven j f step net driver ≡ driven j (seen values was) step net driver
driven_seen j fits f values was step p net within Input driver before shown same = refl
driven_seen j fits f values was step p net within Undriven driver before shown same = refl
driven_seen j fits f values was step p net within (Constant bit) driver before shown same = refl
driven_seen j fits f values was step p net within (Copy argument) driver before shown same = shown (at j step argument) (let less = before.0.before in omega (arith, less))
driven_seen j fits f values was step p net within (Cell table pins) driver before shown same =
    ap (table_of j.udps table) (pins_same (λ n. (f (at j step n)).shown) (λ n. values (at j step n)) pins (all_from (StandsBefore j p) _ (net_pins pins) (λ n stands. shown (at j step n) (let less = stands.before in omega (arith, less))) before))
driven_seen j fits f values was step p net within (Register latching) driver before shown same = register_seen j fits f values was step p net within latching driver shown (same latching refl)

-- What a register keeps is what it gives.
kept_given : (j : Job) (f : ℕ → Held) (step net : ℕ) (driver : Driver) (latching : Latching) → driver ≡ Register latching → kept j f step net driver ≡ driven j f step net driver
kept_given j f step net driver latching is = rw is refl

-- The place of a net one step before.
row_before : (j : Job) → Fits j → (place : ℕ) → place < places_of j → (step_of j place == 0) ≡ false → at j (step_of j place - 1) (net_of j place) ≡ place - j.width
row_before j fits place within later =
    let some = some_width j.width (j.moments * j.rounds) place within in
    let low = mod-lt place some in
    let all = fits.all in
    let at_position : position_of j.order (net_of j place) ≡ place % j.width = position_is j.order (place % j.width) fits.ordering (omega (arith, low, all)) in
    let whole = div-add-mod' place j.width in
    rw at_position (back (step_of j place) j.width (place % j.width) place later whole)
  where
    back : (s w p place : ℕ) → (s == 0) ≡ false → s * w + p ≡ place → (s - 1) * w + p ≡ place - w
    back zero w p place later whole = cc
    back (suc s) w p place later whole = let e : suc s - 1 ≡ s = omega arith in rw e (omega (arith, whole))

net_before : (j : Job) → Fits j → (place : ℕ) → place < places_of j → (step_of j place == 0) ≡ false → net_of j (place - j.width) ≡ net_of j place
net_before j fits place within later =
    let some = some_width j.width (j.moments * j.rounds) place within in
    let low = mod-lt place some in
    ap (slice_index j.order) (back (step_of j place) j.width (place % j.width) place low later (div-add-mod' place j.width))
  where
    back : (s w p place : ℕ) → p < w → (s == 0) ≡ false → s * w + p ≡ place → (place - w) % w ≡ p
    back zero w p place low later whole = cc
    back (suc s) w p place low later whole = let e : place - w ≡ s * w + p = omega (arith, whole) in ap (λ k. k % w) e ∙ mod-mul-add s w p low

earlier : (w place step : ℕ) → (step == 0) ≡ false → step ≡ place / w → w ≤ place
earlier w place zero later is = cc
earlier w place (suc s) later is = let whole = div-add-mod' place w in let more : (s + 1) * w ≤ place / w * w = mul-le-mul_right w (omega (arith, is)) in omega (arith, whole, more)

-- What the driver of a place gives is what it gives on the values, where its net kept this one step before.
pub given_is : (j : Job) → Fits j → (values : ℕ → Value) (place : ℕ) (was : Value) → place < places_of j → (j.width ≤ place → was ≡ given_of j values (place - j.width)) → driven j (seen values was) (step_of j place) (net_of j place) (j.driver (net_of j place)) ≡ given_of j values place
unfolding given_of
given_is j fits values place was within known =
    let s = spot j fits place within in
    sym (driven_seen j fits f values was (step_of j place) (place % j.width) (net_of j place) s.net (j.driver (net_of j place)) s.driver s.before shown was_kept)
  where
    f : ℕ → Held
    f = shown_to j values place

    shown : ShowBelow f values (step_of j place * j.width + place % j.width)
    shown k less = shows j values place k (let whole = div-add-mod' place j.width in omega (arith, less, whole))

    before : ℕ
    before = place - j.width

    was_kept : WasKept f was j (step_of j place) (net_of j place) (j.driver (net_of j place))
    was_kept latching is later =
        let some = some_width j.width (j.moments * j.rounds) place within in
        let from = earlier j.width place (step_of j place) later refl in
        let net = net_before j fits place within later in
        let there : f (at j (step_of j place - 1) (net_of j place)) ≡ held_as j values (shown_to j values before) before = ap f (row_before j fits place within later) ∙ (showing_held j values place before (omega (arith, from, some)) ∙ showing_next j values before) in
        let driver : j.driver (net_of j before) ≡ Register latching = ap j.driver net ∙ is in
        ap (λ (held : Held). held.kept) there ∙ (kept_given j (shown_to j values before) (step_of j before) (net_of j before) (j.driver (net_of j before)) latching driver ∙ sym (known from))

-- To what a net was forced one step before, at a later step.
pub forced_later : (j : Job) (values : ℕ → Value) (place : ℕ) (was : Value) → j.width ≤ place → was ≡ given_of j values (place - j.width) → needed was (values (place - j.width)) ≡ forced_before j (forcing j values) place
unfolding forcing
forced_later j values place was later is =
    ap (λ given. needed given (values (place - j.width))) is ∙ sym (later_step j None (forcing j values) place later)

-- What the row has at a place is what the driver of its net gave one step before.
pub was_given : (j : Job) (values : ℕ → Value) (place : ℕ) (spot : Spot) (row : List Value) (events : List Event) (was : Value) → IsSpot j place spot → AreForcesTo j values place row events → was ≡ slice_index_or row spot.position X → j.width ≤ place → was ≡ given_of j values (place - j.width)
was_given j values place spot row events was is made was_is later =
    was_is ∙ (row_at j X (given_of j values) place spot.position row (let low = is.position_within in omega (arith, low)) is.position made.row ∙ later_step j X (given_of j values) place later)

-- So one place more is made.
pub forces_more : (j : Job) → Fits j → (values : ℕ → Value) (place : ℕ) (spot : Spot) (row : List Value) (old new : List Event) (was given : Value) (before force : Option Value) → IsSpot j place spot → AreForcesTo j values place row old → was ≡ slice_index_or row spot.position X → given ≡ driven j (seen values was) spot.step spot.net (j.driver spot.net) → before ≡ forced_before j (forcing j values) place → force ≡ needed given (values place) → new ≡ old ++ unless_same before force (event_at spot force) → AreForcesTo j values (place + 1) (set row spot.position given) new
unfolding forcing
forces_more j fits values place spot row old new was given before force is made was_is given_as before_is force_as new_is =
    made_more j X (given_of j values) (forcing j values) place spot.position row given old new (let low = is.position_within in omega (arith, low)) is.position given_true (new_is ∙ ap (λ es. old ++ es) change) made
  where
    given_true : given ≡ given_of j values place
    given_true =
        given_as ∙ (ap (λ s. driven j (seen values was) s spot.net (j.driver spot.net)) is.step
        ∙ (ap (λ n. driven j (seen values was) (step_of j place) n (j.driver n)) is.net
        ∙ given_is j fits values place was is.place_within (was_given j values place spot row old was is made was_is)))

    force_is : force ≡ forcing j values place
    force_is = force_as ∙ ap (λ g. needed g (values place)) given_true

    change : unless_same before force (event_at spot force) ≡ change_at j (forcing j values) place
    change = rw (before_is, force_is, is.step, is.net) refl

-- The events of all places are the forces.
pub forces_all : (j : Job) → Fits j → (values : ℕ → Value) (n : ℕ) (row : List Value) (events forces : List Event) → n ≡ places_of j → AreForcesTo j values n row events → forces ≡ events → AreForcesOf j values forces
forces_all j fits values n row events forces all made same =
    subst (AreForcesOf j values) (sym (same ∙ (made.events ∙ ap (λ k. changes j (forcing j values) k) all))) (forces_exist j values fits)
