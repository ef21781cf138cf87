-- A step that is gone over: what rests stays, and what moves makes its readers due.
use Rattle.std.proofs.Common.{◌≡◌, ◌≢◌, ℕ, zero, suc, ◌+◌, ◌-◌, ◌*◌, ◌%◌, ◌<◌, ◌≤◌, ◌==◌, ◌||◌, Bool, true, false, Option, List, [], ◌∷◌, length, min, slice_index, slice_index_or, refl, sym, ap, ◌∙◌, arith, subst, add-zero, ⊎_elim}
use Rattle.std.specs.Prelude.{Contains}
use Rattle.std.specs.List.{AllByRecursion, list_any}
use Rattle.std.proofs.lemmas.Bool.{cases_eq, cases_lt}
use Rattle.std.proofs.lemmas.Grind.{common_steps}
use Rattle.std.proofs.Math.Nat.{mul-le-mul_right, mul_comm}
use Rattle.design_cell.specs.declared.value.Value.{Value}
use Rattle.design_circuit.specs.declared.design.Driver.{Driver}
use Rattle.design_circuit.specs.declared.design.Driver.TheVariants.{Input, Undriven, Constant, Copy, Cell, Register}
use Rattle.design_circuit.specs.Fits.{Fits, place_at}
use Rattle.design_circuit.specs.Handed.{held_of}
use Rattle.design_circuit.specs.History.{HasPlace, HistoryView, IsNextStep, WriterView, held_in, net_place}
use Rattle.design_circuit.specs.Job.{Job, at, places_of, step_of}
use Rattle.design_circuit.specs.Order.{arguments_of_driver, net_pins, position_of}
use Rattle.design_circuit.specs.Replay.{Held}
use Rattle.design_circuit.proofs.Rules.{position_in, spot}
use Rattle.replay_due.specs.Due.{HasRoomFor, NoneBetween, is_due}
use Rattle.replay_due.specs.Readers.{ReadersView, readers_of}
use Rattle.replay_fans.specs.Nets.{driver_on, looked_at}
use Rattle.replay_fans.specs.Readings.{AreReaders}
use Rattle.replay_fans.proofs.Positions.{arguments_within, at_there, looked_within}
use Rattle.replay_history.specs.Filled.{IsFilled, replayed}
use Rattle.replay_history.specs.Still.{AreStillBefore, IsForcedSame, IsRecordedSame, IsStillAt, LooksSame, Stays}
use Rattle.replay_history.specs.Sweep.{AreAhead, AreAwaited, AreDue, IsSwept}
use Rattle.replay_history.proofs.Places.{net_there, place_at_position}
use Rattle.replay_history.proofs.Quiet.{all_two, resting_stays}
use Rattle.replay_history.proofs.Repeats.{step_before}
use Rattle.replay_history.proofs.Replays.{all_by}
use Rattle.replay_history.proofs.Writing.{index_within, place_within}

-- A net that stands at a position is the one there.
there : (j : Job) → Fits j → (position net : ℕ) → net < j.width → position_of j.order net ≡ position → net ≡ slice_index j.order position
there j fits position net low same = sym (net_there j fits net low) ∙ ap (slice_index j.order) same

-- One position more: its net is still, or isn't among the nets.
still_more : (j : Job) → Fits j → (forced : ℕ → Option Value) (step position : ℕ) (nets : List ℕ) → AllByRecursion (λ net. net < j.width) nets → IsStillAt j forced step (slice_index j.order position) → AreStillBefore j forced step position nets → AreStillBefore j forced step (position + 1) nets
still_more j fits forced step position nets within here still =
    all_two (λ net. net < j.width) (λ net. position_of j.order net < position → IsStillAt j forced step net) (λ net. position_of j.order net < position + 1 → IsStillAt j forced step net) nets (λ net low rests before. one net low rests before) within still
  where
    one : (net : ℕ) → net < j.width → (position_of j.order net < position → IsStillAt j forced step net) → position_of j.order net < position + 1 → IsStillAt j forced step net
    one net low rests before =
        ⊎_elim (λ same. (let P : ℕ → Type 0 = IsStillAt j forced step in subst P (sym (there j fits position net low same)) here)) (λ differ. rests (omega (arith, before, differ))) (cases_eq (position_of j.order net) position)

apart_more : (j : Job) → Fits j → (forced : ℕ → Option Value) (step position : ℕ) (nets : List ℕ) → AllByRecursion (λ net. net < j.width) nets → AllByRecursion (λ net. net ≢ slice_index j.order position) nets → AreStillBefore j forced step position nets → AreStillBefore j forced step (position + 1) nets
apart_more j fits forced step position nets within apart still =
    all_two (λ net. (net < j.width) × (net ≢ slice_index j.order position)) (λ net. position_of j.order net < position → IsStillAt j forced step net) (λ net. position_of j.order net < position + 1 → IsStillAt j forced step net) nets (λ net facts rests before. one net facts.0 facts.1 rests before) (all_two (λ net. net < j.width) (λ net. net ≢ slice_index j.order position) (λ net. (net < j.width) × (net ≢ slice_index j.order position)) nets (λ net low differ. (low, differ)) within apart) still
  where
    one : (net : ℕ) → net < j.width → net ≢ slice_index j.order position → (position_of j.order net < position → IsStillAt j forced step net) → position_of j.order net < position + 1 → IsStillAt j forced step net
    one net low differ rests before =
        ⊎_elim (λ same. absurd (differ (there j fits position net low same))) (λ other. rests (omega (arith, before, other))) (cases_eq (position_of j.order net) position)

none_before : (j : Job) (forced : ℕ → Option Value) (step : ℕ) (nets : List ℕ) → AreStillBefore j forced step 0 nets
none_before j forced step [] = tt
none_before j forced step (net ∷ nets) = (λ before. absurd (omega (arith, before)), none_before j forced step nets)

all_before : (j : Job) → Fits j → (forced : ℕ → Option Value) (step : ℕ) (nets : List ℕ) → AllByRecursion (λ net. position_of j.order net < j.width) nets → AreStillBefore j forced step j.width nets → AllByRecursion (IsStillAt j forced step) nets
all_before j fits forced step nets within still =
    all_two (λ net. position_of j.order net < j.width) (λ net. position_of j.order net < j.width → IsStillAt j forced step net) (IsStillAt j forced step) nets (λ net low rests. rests low) within still

-- Behind a position whose net is still everything rests as before.
pub due_still : (j : Job) → Fits j → (forced : ℕ → Option Value) (step position : ℕ) (due : List ℕ) → IsStillAt j forced step (slice_index j.order position) → AreDue j forced step position due → AreDue j forced step (position + 1) due
due_still j fits forced step position due here are = record {
  room = are.room;
  rests = λ p from low clear. (let r = are.rests p (omega (arith, from)) low clear in record {
    forces = r.forces;
    recorded = r.recorded;
    looks = r.looks;
    reads = still_more j fits forced step position (arguments_of_driver (driver_on j p)) (arguments_within j fits p low) here r.reads;
  });
}

pub ahead_still : (j : Job) → Fits j → (forced : ℕ → Option Value) (step position : ℕ) (ahead : List ℕ) → IsStillAt j forced step (slice_index j.order position) → AreAhead j forced step position ahead → AreAhead j forced step (position + 1) ahead
ahead_still j fits forced step position ahead here are = record {
  room = are.room;
  still = λ p low clear. still_more j fits forced step position (looked_at (driver_on j p)) (looked_within j fits p low) here (are.still p low clear);
}

-- The readers of a net become due: a position that isn't was not before, and doesn't read the net.
pub record AreMarked (j : Job) (nets_by : Driver → List ℕ) (net : ℕ) (old new : List ℕ) : Type 0 where
  pub room : HasRoomFor new j.width
  pub apart : (p : ℕ) → p < j.width → is_due new p ≡ false → (is_due old p ≡ false) × AllByRecursion (λ read. read ≢ net) (nets_by (driver_on j p))

pub due_marked : (j : Job) → Fits j → (forced : ℕ → Option Value) (step position : ℕ) (old new : List ℕ) → AreMarked j arguments_of_driver (slice_index j.order position) old new → AreDue j forced step position old → AreDue j forced step (position + 1) new
due_marked j fits forced step position old new marked are = record {
  room = marked.room;
  rests = λ p from low clear. (let apart = marked.apart p low clear in let r = are.rests p (omega (arith, from)) low apart.0 in record {
    forces = r.forces;
    recorded = r.recorded;
    looks = r.looks;
    reads = apart_more j fits forced step position (arguments_of_driver (driver_on j p)) (arguments_within j fits p low) apart.1 r.reads;
  });
}

pub ahead_marked : (j : Job) → Fits j → (forced : ℕ → Option Value) (step position : ℕ) (old new : List ℕ) → AreMarked j looked_at (slice_index j.order position) old new → AreAhead j forced step position old → AreAhead j forced step (position + 1) new
ahead_marked j fits forced step position old new marked are = record {
  room = marked.room;
  still = λ p low clear. (let apart = marked.apart p low clear in apart_more j fits forced step position (looked_at (driver_on j p)) (looked_within j fits p low) apart.1 (are.still p low apart.0));
}

same_test : (a : ℕ) → (a == a) ≡ true
same_test a = let same : a ≡ a = refl in grind (arith, common_steps)

pub or_true : (a : Bool) → (a || true) ≡ true
or_true true = refl
or_true false = refl

pub contained : (xs : List ℕ) (k x : ℕ) → k < length xs → slice_index_or xs k x ≡ x → list_any (λ y. y == x) xs ≡ true
contained [] k x less is = absurd (omega (arith, less))
contained (y ∷ xs) zero x less is = rw (is, same_test x) refl
contained (y ∷ xs) (suc k) x less is = rw (contained xs k x (omega (arith, less)) is) (or_true (y == x))

either_false : (a b : Bool) → (a || b) ≡ false → (a ≡ false) × (b ≡ false)
either_false true b is = absurd (let no : true ≡ false = is in cc)
either_false false b is = (refl, is)

-- With the table of readers, that is what marking them does.
pub are_marked : (j : Job) (nets_by : Driver → List ℕ) (readers : ReadersView) (net : ℕ) (old new : List ℕ) → AreReaders j nets_by readers → HasRoomFor old j.width → length new ≡ length old → ((p : ℕ) → is_due new p ≡ (is_due old p || list_any (λ position. position == p) (readers_of readers net))) → AreMarked j nets_by net old new
are_marked j nets_by readers net old new are room long both = record {
  room = omega (arith, room, long);
  apart = λ p low clear. (let parts = either_false (is_due old p) (list_any (λ position. position == p) (readers_of readers net)) (sym (both p) ∙ clear) in (
    parts.0,
    all_by (λ read. Contains (readers_of readers read) p) (λ read. read ≢ net) (nets_by (driver_on j p)) (λ read has same. differ p parts.1 read has same) (are.has p low),
  ));
}
  where
    differ : (p : ℕ) → list_any (λ position. position == p) (readers_of readers net) ≡ false → (read : ℕ) → Contains (readers_of readers read) p → read ≢ net
    differ p none read has same =
        let P : ℕ → Type 0 = λ n. Contains (readers_of readers n) p in
        let here : Contains (readers_of readers net) p = subst P same has in
        let some : list_any (λ position. position == p) (readers_of readers net) ≡ true = contained (readers_of readers net) here.0 p here.1 here.2 in
        let no : true ≡ false = sym some ∙ none in cc

-- The place of a position has in the repeated row what it has one step before.
pub swept_stays : (j : Job) → Fits j → (forced : ℕ → Option Value) (step position : ℕ) (history : HistoryView) → position < j.width → Stays j forced step (slice_index j.order position) → IsSwept j forced step position history → IsSwept j forced step (position + 1) history
swept_stays j fits forced step position history within stays swept = record {
  filled = record {
    places = swept.filled.places;
    held = λ place less. ⊎_elim (λ same. last place same) (λ differ. swept.filled.held place (omega (arith, less, differ))) (cases_eq place (step * j.width + position));
  };
  behind = λ p from low. swept.behind p (omega (arith, from)) low;
}
  where
    last : (place : ℕ) → place ≡ step * j.width + position → held_of j history place ≡ replayed j forced place
    last place same =
        let here : replayed j forced (at j step (slice_index j.order position)) ≡ replayed j forced (step * j.width + position) = ap (replayed j forced) (at_there j fits step position within) in
        let before : replayed j forced (at j (step - 1) (slice_index j.order position)) ≡ replayed j forced ((step - 1) * j.width + position) = ap (replayed j forced) (at_there j fits (step - 1) position within) in
        rw same (swept.behind position (omega arith) within ∙ (sym before ∙ (sym stays ∙ here)))

-- A position that isn't due is gone over as it is.
pub record IsGone (j : Job) (forced : ℕ → Option Value) (step position : ℕ) (history : HistoryView) (now later : List ℕ) : Type 0 where
  pub swept : IsSwept j forced step position history
  pub due : AreDue j forced step position now
  pub ahead : AreAhead j forced step position later

gone_more : (j : Job) → Fits j → (forced : ℕ → Option Value) (step position : ℕ) (history : HistoryView) (due ahead : List ℕ) → step < j.moments * j.rounds → position < j.width → is_due due position ≡ false → IsGone j forced step position history due ahead → IsGone j forced step (position + 1) history due ahead
gone_more j fits forced step position history due ahead less within clear gone =
    let rests = gone.due.rests position (omega arith) within clear in
    let stays = resting_stays j fits forced step position less within rests in
    let still : IsStillAt j forced step (slice_index j.order position) = ap (λ (held : Held). held.shown) stays in
    record {
      swept = swept_stays j fits forced step position history within stays gone.swept;
      due = due_still j fits forced step position due still gone.due;
      ahead = ahead_still j fits forced step position ahead still gone.ahead;
    }

gone_by : (j : Job) → Fits j → (forced : ℕ → Option Value) (step position more : ℕ) (history : HistoryView) (due ahead : List ℕ) → step < j.moments * j.rounds → position + more ≤ j.width → NoneBetween due position (position + more) → IsGone j forced step position history due ahead → IsGone j forced step (position + more) history due ahead
gone_by j fits forced step position zero history due ahead less within none gone = rw add-zero gone
gone_by j fits forced step position (suc more) history due ahead less within none gone =
    let e : position + suc more ≡ position + more + 1 = omega arith in
    let before = gone_by j fits forced step position more history due ahead less (omega (arith, within)) (λ p from low. none p from (omega (arith, low))) gone in
    let P : ℕ → Type 0 = λ n. IsGone j forced step n history due ahead in
    subst P (sym e) (gone_more j fits forced step (position + more) history due ahead less (omega (arith, within)) (none (position + more) (omega arith) (omega arith)) before)

-- So are all up to the next one that is due, or to the end of the step.
pub gone_to : (j : Job) → Fits j → (forced : ℕ → Option Value) (step from to : ℕ) (history : HistoryView) (due ahead : List ℕ) → step < j.moments * j.rounds → from ≤ j.width → from ≤ to → NoneBetween due from to → IsGone j forced step from history due ahead → IsGone j forced step (min to j.width) history due ahead
gone_to j fits forced step from to history due ahead less within forward none gone =
    let e : from + (min to j.width - from) ≡ min to j.width = omega (arith, within, forward) in
    let P : ℕ → Type 0 = λ n. IsGone j forced step n history due ahead in
    subst P e (gone_by j fits forced step from (min to j.width - from) history due ahead less (omega (arith, within, forward)) (λ p low high. none p low (omega (arith, high, within, forward))) gone)

-- A place that is computed.
pub swept_computed : (j : Job) (forced : ℕ → Option Value) (step position : ℕ) (old new : HistoryView) → IsFilled j forced (step * j.width + position + 1) new → ((p : ℕ) → p < j.width → (p ≡ position → ⊥) → held_of j new (step * j.width + p) ≡ held_of j old (step * j.width + p)) → IsSwept j forced step position old → IsSwept j forced step (position + 1) new
swept_computed j forced step position old new filled others swept =
    let e : step * j.width + position + 1 ≡ step * j.width + (position + 1) = omega arith in
    let P : ℕ → Type 0 = λ n. IsFilled j forced n new in
    record {
      filled = subst P e filled;
      behind = λ p from low. others p low (λ same. omega (arith, from, same)) ∙ swept.behind p (omega (arith, from)) low;
    }

-- The step of a place before a step's row is an earlier one.
step_earlier : (w s t net : ℕ) → s * w + net < t * w → s < t
step_earlier w s t net less = ⊎_elim (λ before. before) (λ behind. absurd (let more : t * w ≤ s * w = mul-le-mul_right w behind in omega (arith, more, less))) (cases_lt s t)

-- A step that begins as the one before has nothing of its own yet.
pub swept_none : (j : Job) → Fits j → (forced : ℕ → Option Value) (step : ℕ) (old new : WriterView) → step < j.moments * j.rounds → old.step + 1 ≡ step → IsFilled j forced (step * j.width) old.history → IsNextStep old new → IsSwept j forced step 0 new.history
swept_none j fits forced step old new less next_is filled next = record {
  filled = record {
    places = record { nets = next.nets ∙ filled.places.nets; all = next.long ∙ filled.places.all };
    held = λ place low. before place (omega (arith, low));
  };
  behind = λ p from low. behind p low;
}
  where
    w : ℕ
    w = j.width

    behind : (p : ℕ) → p < w → held_of j new.history (step * w + p) ≡ replayed j forced ((step - 1) * w + p)
    behind p low =
        let net = slice_index j.order p in
        let back : step - 1 ≡ old.step = omega (arith, next_is) in
        let here : place_at j (step * w + p) ≡ net_place (old.step + 1) net = place_at_position j step p low ∙ ap (λ (s : ℕ). net_place s (slice_index j.order p)) (sym next_is) in
        let there : place_at j ((step - 1) * w + p) ≡ net_place old.step net = place_at_position j (step - 1) p low ∙ ap (λ (s : ℕ). net_place s (slice_index j.order p)) back in
        let has : HasPlace old.history (net_place (old.step + 1) net) = subst (HasPlace old.history) here (index_within j fits old.history (step * w + p) filled.places (place_within j step p less low)) in
        ap (held_in new.history) here
        ∙ next.row net has
        ∙ sym (ap (held_in old.history) there)
        ∙ filled.held ((step - 1) * w + p) (rw add-zero at (step_before w step p 0 (omega (arith, next_is)) low))

    before : (place : ℕ) → place < step * w → held_of j new.history place ≡ replayed j forced place
    before place low =
        let more : step * w ≤ (j.moments * j.rounds) * w = mul-le-mul_right w (omega (arith, less)) in
        let turned = mul_comm (j.moments * j.rounds) w in
        let inside : place < places_of j = omega (arith, low, more, turned) in
        let s = spot j fits place inside in
        let whole = s.whole in
        let earlier : step_of j place < step = step_earlier w (step_of j place) step (place % w) (rw whole low) in
        next.others (place_at j place) (index_within j fits old.history place filled.places inside) (λ same. omega (arith, same, earlier, next_is))
        ∙ filled.held place low

-- The first position of a step: what rests but for what it reads.
pub due_first : (j : Job) (forced : ℕ → Option Value) (step : ℕ) (old new : List ℕ) → HasRoomFor new j.width → ((p : ℕ) → p < j.width → is_due new p ≡ false → is_due old p ≡ false) → ((p : ℕ) → p < j.width → is_due new p ≡ false → IsForcedSame j forced step (slice_index j.order p)) → ((p : ℕ) → p < j.width → is_due new p ≡ false → IsRecordedSame j step (slice_index j.order p) (driver_on j p)) → AreAwaited j forced step old → AreDue j forced step 0 new
due_first j forced step old new room kept forces recorded awaited = record {
  room = room;
  rests = λ p from low clear. record {
    forces = forces p low clear;
    recorded = recorded p low clear;
    looks = awaited.looks p low (kept p low clear);
    reads = none_before j forced step (arguments_of_driver (driver_on j p));
  };
}

pub ahead_first : (j : Job) (forced : ℕ → Option Value) (step : ℕ) (ahead : List ℕ) → HasRoomFor ahead j.width → AreAhead j forced step 0 ahead
ahead_first j forced step ahead room = record {
  room = room;
  still = λ p low clear. none_before j forced step (looked_at (driver_on j p));
}

looks_later : (j : Job) (forced : ℕ → Option Value) (step : ℕ) (driver : Driver) → 0 < step → AllByRecursion (IsStillAt j forced step) (looked_at driver) → LooksSame j forced (step + 1) driver
looks_later j forced step Input later still = tt
looks_later j forced step Undriven later still = tt
looks_later j forced step (Constant bit) later still = tt
looks_later j forced step (Copy argument) later still = tt
looks_later j forced step (Cell table pins) later still = tt
looks_later j forced step (Register latching) later still =
    let back : step ≡ step + 1 - 1 = omega arith in
    let P : ℕ → Type 0 = λ n. AllByRecursion (IsStillAt j forced n) (net_pins latching.pins) in
    (omega (arith, later), subst P back still)

-- Behind the last position what is ahead awaits the next step.
pub awaited_next : (j : Job) → Fits j → (forced : ℕ → Option Value) (step : ℕ) (ahead : List ℕ) → 0 < step → AreAhead j forced step j.width ahead → AreAwaited j forced (step + 1) ahead
awaited_next j fits forced step ahead later are = record {
  room = are.room;
  looks = λ p low clear. (let nets = looked_at (driver_on j p) in
      let within = all_by (λ net. net < j.width) (λ net. position_of j.order net < j.width) (looked_at (driver_on j p)) (λ net less. position_in j fits net less) (looked_within j fits p low) in
      looks_later j forced step (driver_on j p) later (all_before j fits forced step (looked_at (driver_on j p)) within (are.still p low clear)));
}

-- Where all is due nothing has to rest.
pub awaited_all : (j : Job) (forced : ℕ → Option Value) (step : ℕ) (due : List ℕ) → HasRoomFor due j.width → ((p : ℕ) → p < j.width → is_due due p ≡ true) → AreAwaited j forced step due
awaited_all j forced step due room all = record {
  room = room;
  looks = λ p low clear. absurd (let no : true ≡ false = sym (all p low) ∙ clear in cc);
}

-- A step is filled once it is gone over.
pub filled_next : (j : Job) (forced : ℕ → Option Value) (step : ℕ) (history : HistoryView) → IsSwept j forced step j.width history → IsFilled j forced ((step + 1) * j.width) history
filled_next j forced step history swept =
    let e : step * j.width + j.width ≡ (step + 1) * j.width = omega arith in
    let P : ℕ → Type 0 = λ n. IsFilled j forced n history in
    subst P e swept.filled

-- What awaits step 0 is every register, and so it is for step 1.
looks_second : (j : Job) (forced : ℕ → Option Value) (step : ℕ) (driver : Driver) → step ≡ 0 → LooksSame j forced step driver → LooksSame j forced (step + 1) driver
looks_second j forced step Input first looks = tt
looks_second j forced step Undriven first looks = tt
looks_second j forced step (Constant bit) first looks = tt
looks_second j forced step (Copy argument) first looks = tt
looks_second j forced step (Cell table pins) first looks = tt
looks_second j forced step (Register latching) first looks = absurd (let later = looks.0 in omega (arith, first, later))

pub awaited_second : (j : Job) (forced : ℕ → Option Value) (step : ℕ) (due : List ℕ) → step ≡ 0 → AreAwaited j forced step due → AreAwaited j forced (step + 1) due
awaited_second j forced step due first awaited = record {
  room = awaited.room;
  looks = λ p low clear. looks_second j forced step (driver_on j p) first (awaited.looks p low clear);
}
