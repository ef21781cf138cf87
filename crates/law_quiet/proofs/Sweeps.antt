-- A step gone over by what is due in it.
use Rattle.std.proofs.Common.{◌≡◌, ◌⊎◌, ℕ, zero, suc, ◌+◌, ◌-◌, ◌*◌, ◌%◌, ◌<◌, ◌≤◌, ◌==◌, ◌&&◌, not, Bool, true}
use Rattle.std.proofs.Common.{false, Contains, List, [], ◌∷◌, length, length-append, slice_index, refl, sym, ap, ◌∙◌}
use Rattle.std.proofs.Common.{arith, subst, inl, inr, ⊎_elim}
use Rattle.std.specs.List.{AllByRecursion}
use Rattle.std.proofs.lemmas.Bool.{cases_eq, cases_lt, ne_eqb}
use Rattle.std.proofs.lemmas.Nat.{div-mul-add, mod-mul-add}
use Rattle.design_cell.specs.declared.value.Value.{Value}
use Rattle.design_cell.specs.Value.{is_unknown}
use Rattle.design_circuit.specs.declared.design.Driver.{Driver}
use Rattle.design_circuit.specs.declared.design.Driver.TheVariants.{Cell, Constant, Copy, Input, Register, Undriven}
use Rattle.design_circuit.specs.declared.waveform.Written.{Written}
use Rattle.design_circuit.specs.Fits.{Fits, FitsDriver, StandsBefore}
use Rattle.design_circuit.specs.Job.{Job, at, net_of, places_of, step_of}
use Rattle.design_circuit.specs.Order.{arguments_of_driver, net_pins}
use Rattle.design_circuit.specs.Register.{has_uncertain_clock}
use Rattle.design_circuit.specs.declared.stim.Levels.{Levels}
use Rattle.design_circuit.specs.Rule.{old_places, places_at}
use Rattle.design_circuit.specs.Waveform.{certain}
use Rattle.design_circuit.proofs.OrderLemmas.{position_is}
use Rattle.design_circuit.proofs.Rules.{AgreeBelow, agree_on, clock_reads, new_below, old_below, position_in, spot}
use Rattle.law_model.specs.Class.{before, class_of, keeps}
use Rattle.law_model.proofs.CarryLaw.{net_at}
use Rattle.law_model.proofs.ClassesBefore.{never_unknown_same}
use Rattle.law_model.proofs.Classes.{all_at, behind, in_front}
use Rattle.law_model.proofs.FactsBefore.{certain_grown}
use Rattle.law_quiet.specs.Ahead.{IsAhead, IsStirredFrom, RestsFrom, is_calm, is_calm_of, taken_on}
use Rattle.wave_class.specs.Facts.{AgreeBefore}
use Rattle.law_quiet.specs.Due.{IsStirred, driver_of, is_clocked, is_first_round, is_recorded_same}
use Rattle.law_quiet.specs.Runs.{and_next, before_next, repeated}
use Rattle.replay_fans.specs.Nets.{driver_on, looked_at, net_on}
use Rattle.law_quiet.specs.Sweep.{AreAhead, AreDue, BeginsLaw, IsRecordedOn, KeepsOn, NoneDueLaw, SkipLaw, StartLaw}
use Rattle.law_quiet.specs.Sweep.{VisitLaw, spot_at}
use Rattle.law_quiet.proofs.QuietAhead.{ahead_keeps, taken_keeps}
use Rattle.law_quiet.proofs.QuietAlong.{keeps_local}
use Rattle.law_quiet.proofs.QuietRuns.{next_law, steady_keeps}
use Rattle.law_quiet.proofs.QuietStays.{stays_law}

-- The place at a position.
pub step_on : (j : Job) (step p : ℕ) → p < j.width → step_of j (spot_at j step p) ≡ step
step_on j step p low = div-mul-add step j.width p low

pub net_is : (j : Job) (step p : ℕ) → p < j.width → net_of j (spot_at j step p) ≡ net_on j p
net_is j step p low = ap (slice_index j.order) (mod-mul-add step j.width p low)

pub at_self : (j : Job) → Fits j → (step p : ℕ) → p < j.width → at j step (net_on j p) ≡ spot_at j step p
at_self j fits step p low =
    let all = fits.all in
    ap (λ k. step * j.width + k) (position_is j.order p fits.ordering (omega (arith, all, low)))

pub before_on : (j : Job) → Fits j → (step p : ℕ) → p < j.width → before j (spot_at j (step + 1) p) ≡ spot_at j step p
before_on j fits step p low =
    let one : step + 1 - 1 ≡ step = omega arith in
    ap (λ s. at j (s - 1) (net_of j (spot_at j (step + 1) p))) (step_on j (step + 1) p low)
    ∙ ap (λ s. at j s (net_of j (spot_at j (step + 1) p))) one ∙ ap (at j step) (net_is j (step + 1) p low)
    ∙ at_self j fits step p low

is_ahead : (j : Job) (step q p : ℕ) → spot_at j step j.width ≤ places_of j → q ≤ p → p < j.width
    → IsAhead j (spot_at j step q) (spot_at j step p)
is_ahead j step q p room up low = record {
  within = omega (arith, room, low);
  behind = omega (arith, up);
  in_step = (let s = step_on j step p low in subst (λ t. t * j.width ≤ spot_at j step q) (sym s) (omega arith));
}

-- A net that keeps at a place's step is no reason there.
no_reason : (b : Bool) → b ≡ true → b ≡ false → ⊥
no_reason true is isnt = cc
no_reason false is isnt = cc

same_driver : (j : Job) (step p : ℕ) (driver : Driver) → p < j.width → driver_of j (spot_at j step p) ≡ driver
    → driver_on j p ≡ driver
same_driver j step p driver low is = ap j.driver (sym (net_is j step p low)) ∙ is

reads_within : (j : Job) → Fits j → (place net : ℕ) → place < places_of j
    → Contains (arguments_of_driver (driver_of j place)) net → net < j.width
reads_within j fits place net within reads =
    (all_at (StandsBefore j (place % j.width)) (arguments_of_driver (driver_of j place)) net
    (spot j fits place within).before
    reads).within

none_in : (net : ℕ) → Contains [] net → ⊥
none_in net at = omega (arith, at.1)

looks_within : (j : Job) → Fits j → (p net : ℕ) (driver : Driver) → FitsDriver j.udps j.width driver
    → Contains (looked_at driver) net → net < j.width
looks_within j fits p net Input fit looks = absurd (none_in net looks)
looks_within j fits p net Undriven fit looks = absurd (none_in net looks)
looks_within j fits p net (Constant bit) fit looks = absurd (none_in net looks)
looks_within j fits p net (Copy argument) fit looks = absurd (none_in net looks)
looks_within j fits p net (Cell table pins) fit looks = absurd (none_in net looks)
looks_within j fits p net (Register latching) fit looks =
    all_at (λ net. net < j.width) (net_pins latching.pins) net fit.nets looks

-- What a step begins with.
kept_here : (j : Job) → Fits j → (c : ℕ → Value) (step p net : ℕ) → p < j.width → net < j.width
    → keeps j c (taken_on j (class_of j c) (spot_at j (step + 1) 0)) (step_of j (spot_at j (step + 1) p)) net ≡ true
kept_here j fits c step p net low within =
    ap (λ s. keeps j c (taken_on j (class_of j c) (spot_at j (step + 1) 0)) s net) (step_on j (step + 1) p low)
    ∙ ahead_keeps j fits c (class_of j c) (spot_at j (step + 1) 0) (step + 1) net within
    (ne_eqb (step + 1) 0 (λ e. omega (arith, e))) (omega arith)

kept_back : (j : Job) → Fits j → (c : ℕ → Value) (step p net : ℕ) → p < j.width → net < j.width
    → keeps j c (class_of j c) step net ≡ true
    → keeps j c (taken_on j (class_of j c) (spot_at j (step + 1) 0)) (step_of j (spot_at j (step + 1) p) - 1) net ≡ true
kept_back j fits c step p net low within kept =
    let one : step + 1 - 1 ≡ step = omega arith in
    let room = position_in j fits net within in
    ap (λ s. keeps j c (taken_on j (class_of j c) (spot_at j (step + 1) 0)) (s - 1) net) (step_on j (step + 1) p low)
    ∙ ap (λ s. keeps j c (taken_on j (class_of j c) (spot_at j (step + 1) 0)) s net) one
    ∙ taken_keeps j c (class_of j c) (spot_at j (step + 1) 0) step net (omega (arith, room)) ∙ kept

recorded_by : (first same : Bool) → (first ≡ false) ⊎ (same ≡ true) → first ≡ true → same ≡ false → ⊥
recorded_by first same either is isnt = ⊎_elim (λ h. no_reason first is h) (λ h. no_reason same h isnt) either

not_stirred : (j : Job) → Fits j → (c : ℕ → Value) (step p : ℕ) → spot_at j (step + 1) j.width ≤ places_of j
    → p < j.width
    → AllByRecursion (λ net. at j step net < spot_at j step j.width → keeps j c (class_of j c) step net ≡ true)
    (looked_at (driver_on j p))
    → IsRecordedOn j (step + 1) (net_on j p) (driver_on j p)
    → IsStirredFrom j c (spot_at j (step + 1) 0) (spot_at j (step + 1) p) → ⊥
not_stirred j fits c step p room low still recorded (IsStirred.recorded is first same) =
    let place : ℕ = spot_at j (step + 1) p in
    recorded_by (is_first_round j (step + 1)) (is_recorded_same j (step + 1) (net_on j p))
    (subst (IsRecordedOn j (step + 1) (net_on j p)) (same_driver j (step + 1) p Input low is) recorded)
    (ap (is_first_round j) (sym (step_on j (step + 1) p low)) ∙ first)
    (ap (λ s. is_recorded_same j s (net_on j p)) (sym (step_on j (step + 1) p low))
    ∙ ap (is_recorded_same j (step_of j place)) (sym (net_is j (step + 1) p low)) ∙ same)
not_stirred j fits c step p room low still recorded (IsStirred.undriven is first) =
    no_reason (is_first_round j (step + 1)) (ap (is_first_round j) (sym (step_on j (step + 1) p low)) ∙ first)
    (subst (IsRecordedOn j (step + 1) (net_on j p)) (same_driver j (step + 1) p Undriven low is) recorded)
not_stirred j fits c step p room low still recorded (IsStirred.copied net is moves) =
    no_reason _ (kept_here j fits c step p net low (reads_within j fits (spot_at j (step + 1) p) net
    (omega (arith, room, low))
    (subst (λ (d : Driver). Contains (arguments_of_driver d) net) (sym is) (in_front net [])))) moves
not_stirred j fits c step p room low still recorded (IsStirred.pin table pins net is at moves) =
    no_reason _ (kept_here j fits c step p net low (reads_within j fits (spot_at j (step + 1) p) net
    (omega (arith, room, low))
    (subst (λ (d : Driver). Contains (arguments_of_driver d) net) (sym is) at))) moves
not_stirred j fits c step p room low still recorded (IsStirred.looked latching net is looks moves) =
    let driver = same_driver j (step + 1) p (Register latching) low is in
    let within : net < j.width = looks_within j fits p net (Register latching)
    (subst (λ (d : Driver). FitsDriver j.udps j.width d) is
    (spot j fits (spot_at j (step + 1) p) (omega (arith, room, low))).driver)
    looks in
    let here = position_in j fits net within in
    no_reason _ (kept_back j fits c step p net low within
    (all_at (λ net. at j step net < spot_at j step j.width → keeps j c (class_of j c) step net ≡ true)
    (net_pins latching.pins) net
    (subst (λ (d : Driver). AllByRecursion (λ net. at j step net < spot_at j step j.width
    → keeps j c (class_of j c) step net ≡ true) (looked_at d)) driver still) looks (omega (arith, here)))) moves

begins_due : (j : Job) → Fits j → (c : ℕ → Value) (step : ℕ) (ahead due : ℕ → Bool)
    → spot_at j (step + 1) j.width ≤ places_of j → AgreeBefore j c (spot_at j (step + 1) 0)
    → AreAhead j c step j.width ahead
    → ((p : ℕ) → p < j.width → due p ≡ false → (ahead p ≡ false) × IsRecordedOn j (step + 1) (net_on j p)
    (driver_on j p))
    → AreDue j c (step + 1) 0 due
begins_due j fits c step ahead due room agree later more = record {
  rests = λ p up low none. (
      let both = more p low none in
      let s = step_on j (step + 1) p low in
      stays_law j c (spot_at j (step + 1) 0) (spot_at j (step + 1) p) fits (is_ahead j (step + 1) 0 p room up low) agree
      (λ e. omega (arith, s, e))
      (ap (is_calm j c) (before_on j fits step p low) ∙ later.calm p low both.0)
      (not_stirred j fits c step p room low (later.still p low both.0) both.1)
      );
}

-- No place of a step stands before it.
none_ahead : (j : Job) (c : ℕ → Value) (step : ℕ) (ahead : ℕ → Bool) → AreAhead j c step 0 ahead
none_ahead j c step ahead = record {
  calm = λ p less none. absurd (omega arith);
  still = λ p less none. each (looked_at (driver_on j p));
}
  where
    each : (nets : List ℕ) → AllByRecursion (λ net. at j step net < spot_at j step 0
        → keeps j c (class_of j c) step net ≡ true) nets
    each [] = tt
    each (net ∷ nets) = (λ less. absurd (omega (arith, less)), each nets)

pub start_law : StartLaw
start_law j ahead = record {
  length_is = omega arith;
  due_here = record { rests = λ p up low none. absurd (no_reason true refl none) };
  due_later = none_ahead j (certain []) 0 ahead;
}

pub begins_law : BeginsLaw
begins_law j waveform step old_due ahead due new_ahead fits room agree gone more =
    let long = gone.length_is in
    let next : length waveform ≡ spot_at j (step + 1) 0 = omega (arith, long) in
    record {
      length_is = next;
      due_here = begins_due j fits (certain waveform) step ahead due room
          (subst (AgreeBefore j (certain waveform)) next agree)
          gone.due_later more;
      due_later = none_ahead j (certain waveform) (step + 1) new_ahead;
    }

-- Being calm depends on certain values up to the place alone.
guarded : (a x y : Bool) → (a ≡ true → x ≡ y) → a && x ≡ a && y
guarded true x y same = same refl
guarded false x y same = refl

not_true : (b : Bool) → not b ≡ true → b ≡ false
not_true false h = refl
not_true true h = cc

clock_or : (levels : Levels) (a b u v : Bool) → a ≡ b → u ≡ v → is_clocked levels a a u ≡ is_clocked levels b b v
clock_or levels a b u v ab uv = rw (ab, uv) refl

calm_same : (j : Job) → Fits j → (c d : ℕ → Value) (place : ℕ) (driver : Driver) → place < places_of j
    → AgreeBelow c d (place + 1) → FitsDriver j.udps j.width driver
    → is_calm_of j c place (step_of j place) driver ≡ is_calm_of j d place (step_of j place) driver
calm_same j fits c d place Input within agree fit = refl
calm_same j fits c d place Undriven within agree fit = refl
calm_same j fits c d place (Constant bit) within agree fit = refl
calm_same j fits c d place (Copy argument) within agree fit = refl
calm_same j fits c d place (Cell table pins) within agree fit =
    never_unknown_same j fits c d place within (λ k less. agree k (omega (arith, less)))
calm_same j fits c d place (Register latching) within agree fit =
    let step = step_of j place in
    let whole = (spot j fits place within).whole in
    guarded (not (step == 0)) _ _ (λ h. (
    let later = not_true (step == 0) h in
    let here : AgreeBelow c d (step * j.width + place % j.width) = λ k less. agree k (omega (arith, less, whole)) in
    clock_or j.levels (has_uncertain_clock j c step latching) (has_uncertain_clock j d step latching)
    (is_unknown (c place))
    (is_unknown (d place))
    (clock_reads j c d step latching
    (agree_on c d (step * j.width + place % j.width) (old_places j step latching.pins) here
    (old_below j fits step (place % j.width) latching fit later))
    (agree_on c d (step * j.width + place % j.width) (places_at j (step - 1) latching.pins) here
    (new_below j fits step (place % j.width) latching fit later)))
    (ap is_unknown (agree place (omega arith)))))

calm_local : (j : Job) → Fits j → (c d : ℕ → Value) (place : ℕ) → place < places_of j → AgreeBelow c d (place + 1)
    → is_calm j c place ≡ is_calm j d place
calm_local j fits c d place within agree =
    calm_same j fits c d place (driver_of j place) within agree (spot j fits place within).driver

-- The nets that are looked back at, with more places known.
looks_along : (j : Job) → Fits j → (c d : ℕ → Value) (first next step : ℕ) (nets : List ℕ) → first ≤ places_of j
    → AgreeBelow c d first
    → AllByRecursion (λ net. at j step net < first → keeps j c (class_of j c) step net ≡ true) nets
    → ((net : ℕ) → Contains nets net → first ≤ at j step net → at j step net < next
    → keeps j d (class_of j d) step net ≡ true)
    → AllByRecursion (λ net. at j step net < next → keeps j d (class_of j d) step net ≡ true) nets
looks_along j fits c d first next step [] within agree still more = tt
looks_along j fits c d first next step (net ∷ nets) within agree still more = (
  λ less. ⊎_elim (λ (low : at j step net < first).
      sym (keeps_local j fits c d first step net within agree low) ∙ still.0 low)
      (λ (up : first ≤ at j step net). more net (in_front net nets) up less) (cases_lt (at j step net) first),
  looks_along j fits c d first next step nets within agree still.1 (λ k at. more k (behind net k nets at)),
)

net_within : (j : Job) → Fits j → (p : ℕ) → p < j.width → net_on j p < j.width
net_within j fits p low = let all = fits.all in let below = fits.ordering.below p (omega (arith, all, low)) in
    omega (arith, below, all)

-- The net of a place.
net_there : (j : Job) → Fits j → (step p net : ℕ) → p < j.width → net < j.width → at j step net ≡ spot_at j step p
    → net ≡ net_on j p
net_there j fits step p net low within is =
    sym (net_at_it step net within) ∙ ap (net_of j) is ∙ net_is j step p low
  where
    net_at_it : (s k : ℕ) → k < j.width → net_of j (at j s k) ≡ k
    net_at_it s k h = net_at j fits s k h

-- One place is written.
pub visit_law : VisitLaw
visit_law j waveform x step position due ahead new_due new_ahead fits low room gone visit = record {
  length_is = long_after;
  due_here = record { rests = rests };
  due_later = record { calm = calm; still = still };
}
  where
    after : List Written
    after = and_next waveform x

    long : length waveform ≡ spot_at j step position
    long = gone.length_is

    long_after : length after ≡ spot_at j step (position + 1)
    long_after = let grows = length-append waveform (x ∷ []) in omega (arith, grows, long)

    agree : AgreeBelow (certain waveform) (certain after) (length waveform)
    agree = certain_grown waveform x

    rests : (p : ℕ) → position + 1 ≤ p → p < j.width → new_due p ≡ false
        → RestsFrom j (certain after) (spot_at j step (position + 1)) (spot_at j step p)
    rests p up less none =
        let both = visit.readers p (omega arith) less none in
        let here : length waveform + 1 ≡ spot_at j step (position + 1) = omega (arith, long) in
        subst (λ n. RestsFrom j (certain after) n (spot_at j step p)) here
        (next_law j waveform x (spot_at j step p) fits
        (subst (λ n. IsAhead j n (spot_at j step p)) (sym long) (is_ahead j step position p room (omega arith) less))
        (omega (arith, long, up)) (either p less both.1)
        (subst (λ n. RestsFrom j (certain waveform) n (spot_at j step p)) (sym long)
        (gone.due_here.rests p (omega arith) less both.0)))
      where
        either : (p : ℕ) → p < j.width → KeepsOn j after step position
            ⊎ (Contains (arguments_of_driver (driver_on j p)) (net_on j position) → ⊥)
            → (keeps j (certain after) (class_of j (certain after)) (step_of j (length waveform))
            (net_of j (length waveform)) ≡ true)
            ⊎ (Contains (arguments_of_driver (driver_of j (spot_at j step p))) (net_of j (length waveform)) → ⊥)
        either p less which =
            let s : step_of j (length waveform) ≡ step = ap (step_of j) long ∙ step_on j step position low in
            let n : net_of j (length waveform) ≡ net_on j position = ap (net_of j) long ∙ net_is j step position low in
            ⊎_elim (λ (kept : KeepsOn j after step position).
            inl (ap (λ t. keeps j (certain after) (class_of j (certain after)) t
            (net_of j (length waveform))) s ∙ ap (keeps j (certain after) (class_of j (certain after)) step) n ∙ kept))
            (λ (none : Contains (arguments_of_driver (driver_on j p)) (net_on j position) → ⊥). inr (λ reads. none
            (subst (Contains (arguments_of_driver (driver_on j p))) n
            (subst (λ k. Contains (arguments_of_driver (j.driver k)) (net_of j (length waveform)))
            (net_is j step p less) reads))))
            which

    calm : (p : ℕ) → p < position + 1 → new_ahead p ≡ false → is_calm j (certain after) (spot_at j step p) ≡ true
    calm p less none = ⊎_elim (λ (same : p ≡ position). subst (λ q. is_calm j (certain after) (spot_at j step q) ≡ true)
        (sym same)
        (visit.calm (subst (λ q. new_ahead q ≡ false) same none)))
        (λ (other : p ≡ position → ⊥). sym (calm_local j fits (certain waveform) (certain after) (spot_at j step p)
        (omega (arith, room, less, low, other)) (λ k h. agree k (omega (arith, h, long, less, other))))
        ∙ gone.due_later.calm p (omega (arith, less, other)) (visit.lookers p (omega (arith, less, low)) none).0)
        (cases_eq p position)

    still : (p : ℕ) → p < j.width → new_ahead p ≡ false
        → AllByRecursion (λ net. at j step net < spot_at j step (position + 1)
        → keeps j (certain after) (class_of j (certain after)) step net ≡ true) (looked_at (driver_on j p))
    still p less none =
        let both = visit.lookers p less none in
        let fit = fits.pins (net_on j p) (net_within j fits p less) in
        looks_along j fits (certain waveform) (certain after) (spot_at j step position) (spot_at j step (position + 1))
        step
        (looked_at (driver_on j p)) (omega (arith, room, low)) (λ k h. agree k (omega (arith, h, long)))
        (gone.due_later.still p less both.0)
        (λ net looks up below. (
        let there : net ≡ net_on j position = net_there j fits step position net low
        (looks_within j fits p net (driver_on j p) fit looks) (omega (arith, up, below)) in
        ⊎_elim (λ (kept : KeepsOn j after step position). ap (keeps j (certain after) (class_of j (certain after)) step)
        there ∙ kept)
        (λ (none_looks : Contains (looked_at (driver_on j p)) (net_on j position) → ⊥).
        absurd (none_looks (subst (Contains (looked_at (driver_on j p))) there looks))) both.1))

-- Positions of which none is due.
position_back : (w step position many place n : ℕ) → n ≡ step * w + position → n ≤ place → place < n + many
    → (p : ℕ) × (position ≤ p) × (p < position + many) × (step * w + p ≡ place)
position_back w step position many place n is up less =
    (place - step * w, omega (arith, is, up), omega (arith, is, up, less), omega (arith, is, up))

pub none_due_law : NoneDueLaw
none_due_law j shown waveform step position many due ahead fits some up room gone none =
    let long = gone.length_is in
    let low : position < j.width = omega (arith, some, up) in
    let s : step_of j (length waveform) ≡ step = ap (step_of j) long ∙ step_on j step position low in
    record {
      within = omega (arith, long, up, room);
      one_step = subst (λ t. length waveform + many ≤ (t + 1) * j.width) (sym s) (omega (arith, long, up));
      rests = λ place from less. (
          let at_p = position_back j.width step position many place (length waveform) long from less in
          let p_low = at_p.2 in
          subst (λ n. RestsFrom j (certain waveform) n place) (sym long)
          (subst (RestsFrom j (certain waveform) (spot_at j step position)) at_p.3
          (gone.due_here.rests at_p.0 at_p.1 (omega (arith, p_low, up)) (none at_p.0 at_p.1 at_p.2).0))
          );
      shows = λ place from less. (
          let at_p = position_back j.width step position many place (length waveform) long from less in
          subst (λ k. shown k ≡ shown (before j k)) at_p.3 (none at_p.0 at_p.1 at_p.2).1
          );
    }

-- A run is passed over.
pub repeated_long : (j : Job) (waveform : List Written) (many : ℕ)
    → length (repeated j waveform many) ≡ length waveform + many
unfolding repeated
repeated_long j waveform zero = omega arith
repeated_long j waveform (suc many) =
    let ih = repeated_long j waveform many in
    let grows = length-append (repeated j waveform many) (before_next j (repeated j waveform many) ∷ []) in
    omega (arith, ih, grows)

repeated_agree : (j : Job) (waveform : List Written) (many : ℕ)
    → AgreeBelow (certain waveform) (certain (repeated j waveform many)) (length waveform)
unfolding repeated
repeated_agree j waveform zero k less = refl
repeated_agree j waveform (suc many) k less =
    let long = repeated_long j waveform many in
    repeated_agree j waveform many k less
    ∙ certain_grown (repeated j waveform many) (before_next j (repeated j waveform many)) k (omega (arith, less, long))

pub skip_law : SkipLaw
skip_law j limits shown waveform lines step position many due ahead fits up room gone run = record {
  length_is = long_after;
  due_here = record { rests = rests };
  due_later = record { calm = calm; still = still };
}
  where
    after : List Written
    after = repeated j waveform many

    long : length waveform ≡ spot_at j step position
    long = gone.length_is

    long_after : length after ≡ spot_at j step (position + many)
    long_after = let grows = repeated_long j waveform many in omega (arith, grows, long)

    agree : AgreeBelow (certain waveform) (certain after) (length waveform)
    agree = repeated_agree j waveform many

    rests : (p : ℕ) → position + many ≤ p → p < j.width → due p ≡ false
        → RestsFrom j (certain after) (spot_at j step (position + many)) (spot_at j step p)
    rests p from less none =
        let here : length waveform + many ≡ spot_at j step (position + many) = omega (arith, long) in
        subst (λ n. RestsFrom j (certain after) n (spot_at j step p)) here
        (run.ahead (spot_at j step p)
        (subst (λ n. IsAhead j n (spot_at j step p)) (sym long) (is_ahead j step position p room (omega arith) less))
        (omega (arith, long, from))
        (subst (λ n. RestsFrom j (certain waveform) n (spot_at j step p)) (sym long)
        (gone.due_here.rests p (omega arith) less none)))

    calm : (p : ℕ) → p < position + many → ahead p ≡ false → is_calm j (certain after) (spot_at j step p) ≡ true
    calm p less none = ⊎_elim (λ (h : p < position). sym (calm_local j fits (certain waveform) (certain after)
        (spot_at j step p)
        (omega (arith, room, less, up)) (λ k low. agree k (omega (arith, low, long, h))))
        ∙ gone.due_later.calm p h none)
        (λ (h : position ≤ p). run.calm (spot_at j step p) (omega (arith, long, h)) (omega (arith, long, less)))
        (cases_lt p position)

    still : (p : ℕ) → p < j.width → ahead p ≡ false
        → AllByRecursion (λ net. at j step net < spot_at j step (position + many)
        → keeps j (certain after) (class_of j (certain after)) step net ≡ true) (looked_at (driver_on j p))
    still p less none =
        let fit = fits.pins (net_on j p) (net_within j fits p less) in
        looks_along j fits (certain waveform) (certain after) (spot_at j step position)
        (spot_at j step (position + many)) step
        (looked_at (driver_on j p)) (omega (arith, room, up)) (λ k h. agree k (omega (arith, h, long)))
        (gone.due_later.still p less none)
        (λ net looks from below. steady_keeps j fits (certain after) step net
        (looks_within j fits p net (driver_on j p) fit looks)
        (run.steady (at j step net) (omega (arith, long, from)) (omega (arith, long, below))))
