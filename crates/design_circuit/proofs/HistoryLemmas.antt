-- Two values in a byte.
use Rattle.std.proofs.Common.{◌≡◌, ℕ, zero, suc, ◌+◌, ◌*◌, ◌/◌, ◌%◌, ◌<◌, ◌≤◌, arith, List, length, length-set, slice_index, slice_index_or, replicate, set, get_or-set_other, get_or-set_same, refl, ◌∙◌, ap, subst, sym, ⊎_elim}
use Rattle.std.proofs.Math.Nat.{mod-lt}
use Rattle.std.proofs.lemmas.Bool.{cases_eq, cases_lt, le-ltb, lt-ltb}
use Rattle.std.proofs.lemmas.List.{ext_get_or, get_or-replicate, length-replicate, length_push}
use Rattle.std.proofs.lemmas.List.FromFn.{get_or-map-range_with_len, length-map-range_with_len}
use Rattle.std.proofs.lemmas.Nat.{div-add-mod', div-mul-add, mod-mul-add}
use Rattle.design_cell.specs.declared.value.Value.{Value}
use Rattle.design_cell.specs.declared.value.Value.TheVariants.{Zero, One, X, Z}
use Rattle.base_ledger.specs.Ledger.{LedgerStep, LedgerView, after_turn, new_ledger, step_row, steps_of, with_put}
use Rattle.base_ledger.proofs.Kept.{row_earlier, row_last}
use Rattle.design_circuit.specs.Replay.{Held, blank}
use Rattle.design_circuit.specs.Fits.{place_at}
use Rattle.design_circuit.specs.Handed.{IsBlank}
use Rattle.design_circuit.specs.History.{HasPlace, HistoryView, IsNextStep, WriterView, blank_history, held_in, held_of_byte, held_row, history_by, index_in, net_place, two_bits, writer_with, writer_by}
use Rattle.design_circuit.specs.Job.{job_of}
use Rattle.design_circuit.specs.declared.design.Design.{Design}
use Rattle.design_circuit.specs.declared.place.Place.{Place}
use Rattle.design_circuit.specs.declared.stim.Stim.{Stim}

pub held_of_two : (shown kept : Value) → held_of_byte (two_bits shown + 4 * two_bits kept) ≡ record { shown = shown; kept = kept }
held_of_two Zero Zero = refl
held_of_two Zero One = refl
held_of_two Zero X = refl
held_of_two Zero Z = refl
held_of_two One Zero = refl
held_of_two One One = refl
held_of_two One X = refl
held_of_two One Z = refl
held_of_two X Zero = refl
held_of_two X One = refl
held_of_two X X = refl
held_of_two X Z = refl
held_of_two Z Zero = refl
held_of_two Z One = refl
held_of_two Z X = refl
held_of_two Z Z = refl

-- The row of the step under way has a value at a net, and else all is as it was.
pub record IsPut (old new : LedgerView) (net : ℕ) (held : Held) : Type 0 where
  pub width : new.width ≡ old.width
  pub before : new.before ≡ old.before
  pub here : held_of_byte (slice_index new.last.row net) ≡ held
  pub others : (n : ℕ) → (n ≡ net → ⊥) → slice_index new.last.row n ≡ slice_index old.last.row n

-- What a net has at a step before the last one, at the last one, and after it.
pub row_there : (steps : List LedgerStep) (step net : ℕ) → step < length steps → held_row steps step net ≡ held_of_byte (slice_index (step_row steps step) net)
row_there steps step net less = rw (lt-ltb step (length steps) less) refl

pub row_after : (steps : List LedgerStep) (step net : ℕ) → length steps ≤ step → held_row steps step net ≡ blank
row_after steps step net past = rw (le-ltb step (length steps) past) refl

steps_long : (ledger : LedgerView) → length (steps_of ledger) ≡ length ledger.before + 1
steps_long ledger = length_push ledger.before ledger.last

row_now : (ledger : LedgerView) (step net : ℕ) → step ≡ length ledger.before → held_row (steps_of ledger) step net ≡ held_of_byte (slice_index ledger.last.row net)
row_now ledger step net is =
    let long = steps_long ledger in
    row_there (steps_of ledger) step net (omega (arith, long, is)) ∙ ap (λ (row : List ℕ). held_of_byte (slice_index row net)) (row_last ledger step is)

row_before : (ledger : LedgerView) (step net : ℕ) → step < length ledger.before → held_row (steps_of ledger) step net ≡ held_of_byte (slice_index (step_row ledger.before step) net)
row_before ledger step net less =
    let long = steps_long ledger in
    row_there (steps_of ledger) step net (omega (arith, long, less)) ∙ ap (λ (row : List ℕ). held_of_byte (slice_index row net)) (row_earlier ledger step less)

-- The place of a number, and of a net at a step.
pub held_at : (nets count : ℕ) (steps : List LedgerStep) (k : ℕ) → k < nets * count → slice_index_or (history_by nets count steps).places k blank ≡ held_row steps (k / nets) (k % nets)
held_at nets count steps k less = get_or-map-range_with_len (λ n. held_row steps (n / nets) (n % nets)) 0 (nets * count) k k blank less (omega arith)

pub places_long : (nets count : ℕ) (steps : List LedgerStep) → length (history_by nets count steps).places ≡ nets * count
places_long nets count steps = length-map-range_with_len (λ n. held_row steps (n / nets) (n % nets)) 0 (nets * count)

pub held_there : (nets count : ℕ) (steps : List LedgerStep) (place : Place) → HasPlace (history_by nets count steps) place → held_in (history_by nets count steps) place ≡ held_row steps place.step place.net
held_there nets count steps place has =
    let long = places_long nets count steps in
    let inside = has.step in
    held_at nets count steps (place.step * nets + place.net) (omega (arith, long, inside))
    ∙ ap (λ s. held_row steps s ((place.step * nets + place.net) % nets)) (div-mul-add place.step nets place.net has.net)
    ∙ ap (held_row steps place.step) (mod-mul-add place.step nets place.net has.net)

-- At first every place is blank.
first_row : (nets : ℕ) (step net : ℕ) → net < nets → held_row (steps_of (new_ledger nets 10)) step net ≡ blank
first_row nets step net less = ⊎_elim (λ (first : step < 1). row_now (new_ledger nets 10) step net (omega (arith, first)) ∙ ap held_of_byte (get_or-replicate nets net 10 0 less)) (λ (later : 1 ≤ step). row_after (steps_of (new_ledger nets 10)) step net later) (cases_lt step 1)

pub blank_first : (nets count : ℕ) → history_by nets count (steps_of (new_ledger nets 10)) ≡ record { nets = nets; places = replicate (nets * count) blank }
blank_first nets count =
    let long = places_long nets count (steps_of (new_ledger nets 10)) in
    let as_long = length-replicate (nets * count) blank in
    let same : (history_by nets count (steps_of (new_ledger nets 10))).places ≡ replicate (nets * count) blank =
    ext_get_or blank (history_by nets count (steps_of (new_ledger nets 10))).places (replicate (nets * count) blank) (long ∙ sym as_long) (λ k inside. each k (omega (arith, inside, long))) in
    λ t. record { nets = nets; places = same t }
  where
    each : (k : ℕ) → k < nets * count → slice_index_or (history_by nets count (steps_of (new_ledger nets 10))).places k blank ≡ slice_index_or (replicate (nets * count) blank) k blank
    each k less =
        let some : 0 < nets = positive nets less in
        held_at nets count (steps_of (new_ledger nets 10)) k less
        ∙ first_row nets (k / nets) (k % nets) (mod-lt k some)
        ∙ sym (get_or-replicate (nets * count) k blank blank less)
      where
        positive : (n : ℕ) → k < n * count → 0 < n
        positive zero low = absurd (omega (arith, low))
        positive (suc n) low = omega arith

-- A value that is put is that of its place, and the others stay.
pub held_put : (ledger new : LedgerView) (count : ℕ) (place : Place) (held : Held) → HasPlace (history_by ledger.width count (steps_of ledger)) place → place.step ≡ length ledger.before → IsPut ledger new place.net held → writer_by count new ≡ writer_with (writer_by count ledger) place held
held_put ledger new count place held has step_is put =
    let before : length new.before ≡ length ledger.before = ap (λ (steps : List LedgerStep). length steps) put.before in
    let width = put.width in
    λ t. record { step = before t; history = record { nets = width t; places = all t } }
  where
    w : ℕ
    w = ledger.width

    places : List Held
    places = (history_by w count (steps_of ledger)).places

    index : ℕ
    index = place.step * w + place.net

    long : length places ≡ w * count
    long = places_long w count (steps_of ledger)

    other_row : (step net : ℕ) → ((step ≡ place.step) → (net ≡ place.net) → ⊥) → held_row (steps_of new) step net ≡ held_row (steps_of ledger) step net
    other_row step net differ =
        let more = steps_long new in
        let less = steps_long ledger in
        let same : length new.before ≡ length ledger.before = ap (λ (steps : List LedgerStep). length steps) put.before in
        ⊎_elim (λ (earlier : step < length ledger.before).
        row_before new step net (omega (arith, earlier, same))
        ∙ ap (λ (steps : List LedgerStep). held_of_byte (slice_index (step_row steps step) net)) put.before
        ∙ sym (row_before ledger step net earlier))
        (λ (later : length ledger.before ≤ step). ⊎_elim (λ (now : step < length ledger.before + 1).
        (let is : step ≡ length ledger.before = omega (arith, later, now) in
        row_now new step net (omega (arith, is, same))
        ∙ ap held_of_byte (put.others net (λ e. differ (omega (arith, is, step_is)) e))
        ∙ sym (row_now ledger step net is)))
        (λ (past : length ledger.before + 1 ≤ step).
        row_after (steps_of new) step net (omega (arith, past, more, same)) ∙ sym (row_after (steps_of ledger) step net (omega (arith, past, less))))
        (cases_lt step (length ledger.before + 1))) (cases_lt step (length ledger.before))

    each : (k : ℕ) → k < w * count → slice_index_or (history_by w count (steps_of new)).places k blank ≡ slice_index_or (set places index held) k blank
    each k less = ⊎_elim (λ (here : k ≡ index).
        held_at w count (steps_of new) k less
        ∙ ap (λ n. held_row (steps_of new) (n / w) (n % w)) here
        ∙ ap (λ s. held_row (steps_of new) s (index % w)) (div-mul-add place.step w place.net has.net)
        ∙ ap (held_row (steps_of new) place.step) (mod-mul-add place.step w place.net has.net)
        ∙ row_now new place.step place.net (step_is ∙ sym (ap (λ (steps : List LedgerStep). length steps) put.before))
        ∙ put.here
        ∙ sym (ap (λ n. slice_index_or (set places index held) n blank) here ∙ get_or-set_same places index held blank has.step))
        (λ (away : k ≡ index → ⊥).
        held_at w count (steps_of new) k less
        ∙ other_row (k / w) (k % w) (λ s n. away (sym (div-add-mod' k w) ∙ ap (λ m. m * w + k % w) s ∙ ap (λ m. place.step * w + m) n))
        ∙ sym (held_at w count (steps_of ledger) k less)
        ∙ sym (get_or-set_other places index k held blank away)) (cases_eq k index)

    same_width : (history_by new.width count (steps_of new)).places ≡ (history_by w count (steps_of new)).places
    same_width = ap (λ n. (history_by n count (steps_of new)).places) put.width

    all : (history_by new.width count (steps_of new)).places ≡ set places index held
    all =
        let new_long = places_long w count (steps_of new) in
        let set_long = length-set places index held in
        same_width ∙ ext_get_or blank (history_by w count (steps_of new)).places (set places index held) (new_long ∙ sym (set_long ∙ long)) (λ k inside. each k (omega (arith, inside, new_long)))

-- A step more begins as the last one.
pub step_begun : (ledger : LedgerView) (count : ℕ) → IsNextStep (writer_by count ledger) (writer_by count (after_turn ledger))
step_begun ledger count = record {
  step = steps_long ledger;
  nets = refl;
  long = places_long ledger.width count (steps_of (after_turn ledger)) ∙ sym (places_long ledger.width count (steps_of ledger));
  row = λ net has.
      held_there ledger.width count (steps_of (after_turn ledger)) (net_place (length ledger.before + 1) net) (stays (net_place (length ledger.before + 1) net) has)
      ∙ row_now (after_turn ledger) (length ledger.before + 1) net (sym (steps_long ledger))
      ∙ sym (row_now ledger (length ledger.before) net refl)
      ∙ sym (held_there ledger.width count (steps_of ledger) (net_place (length ledger.before) net) record { net = has.net; step = (let inside = has.step in let net = has.net in omega (arith, inside, net)) });
  others = λ place has differ.
      held_there ledger.width count (steps_of (after_turn ledger)) place (stays place has)
      ∙ other place.step place.net differ
      ∙ sym (held_there ledger.width count (steps_of ledger) place has);
}
  where
    stays : (place : Place) → HasPlace (history_by ledger.width count (steps_of ledger)) place → HasPlace (history_by ledger.width count (steps_of (after_turn ledger))) place
    stays place has =
        let more = places_long ledger.width count (steps_of (after_turn ledger)) in
        let long = places_long ledger.width count (steps_of ledger) in
        let inside = has.step in
        record { net = has.net; step = omega (arith, inside, more, long) }

    other : (step net : ℕ) → (step ≡ length ledger.before + 1 → ⊥) → held_row (steps_of (after_turn ledger)) step net ≡ held_row (steps_of ledger) step net
    other step net differ =
        let long = steps_long ledger in
        let more = steps_long (after_turn ledger) in
        ⊎_elim (λ (earlier : step < length (steps_of ledger)). row_before (after_turn ledger) step net earlier ∙ sym (row_there (steps_of ledger) step net earlier))
        (λ (past : length (steps_of ledger) ≤ step). row_after (steps_of (after_turn ledger)) step net (omega (arith, past, long, more, differ)) ∙ sym (row_after (steps_of ledger) step net past))
        (cases_lt step (length (steps_of ledger)))

-- What is read of a place.
pub byte_after : (nets count : ℕ) (steps : List LedgerStep) (history : HistoryView) (place : Place) → history_by nets count steps ≡ history → HasPlace history place → length steps ≤ place.step → held_of_byte 10 ≡ held_in history place
byte_after nets count steps history place is has past =
    sym (row_after steps place.step place.net past)
    ∙ sym (held_there nets count steps place (subst (λ (h : HistoryView). HasPlace h place) (sym is) has))
    ∙ ap (λ (h : HistoryView). held_in h place) is

pub byte_there : (nets count : ℕ) (steps : List LedgerStep) (history : HistoryView) (place : Place) (byte : ℕ) → history_by nets count steps ≡ history → HasPlace history place → place.step < length steps → byte ≡ slice_index (step_row steps place.step) place.net → held_of_byte byte ≡ held_in history place
byte_there nets count steps history place byte is has less byte_is =
    ap held_of_byte byte_is
    ∙ sym (row_there steps place.step place.net less)
    ∙ sym (held_there nets count steps place (subst (λ (h : HistoryView). HasPlace h place) (sym is) has))
    ∙ ap (λ (h : HistoryView). held_in h place) is

pub steps_so_far : (ledger : LedgerView) → length (steps_of ledger) ≡ length ledger.before + 1
steps_so_far ledger = steps_long ledger

-- A ledger with a byte put, or with the byte that it has.
pub put_is : (ledger : LedgerView) (net byte : ℕ) (shown kept : Value) → length ledger.last.row ≡ ledger.width → net < ledger.width → byte ≡ two_bits shown + 4 * two_bits kept → IsPut ledger (with_put ledger net byte) net record { shown = shown; kept = kept }
put_is ledger net byte shown kept long less byte_is = record {
  width = refl;
  before = refl;
  here = ap held_of_byte (get_or-set_same ledger.last.row net byte 0 (omega (arith, long, less)) ∙ byte_is) ∙ held_of_two shown kept;
  others = λ n differ. get_or-set_other ledger.last.row net n byte 0 differ;
}

pub same_is : (ledger : LedgerView) (net byte : ℕ) (shown kept : Value) → slice_index ledger.last.row net ≡ byte → byte ≡ two_bits shown + 4 * two_bits kept → IsPut ledger ledger net record { shown = shown; kept = kept }
same_is ledger net byte shown kept is byte_is = record {
  width = refl;
  before = refl;
  here = ap held_of_byte (is ∙ byte_is) ∙ held_of_two shown kept;
  others = λ n differ. refl;
}

-- What is written at a place of the step under way.
pub writer_put : (ledger new : LedgerView) (count : ℕ) (view : WriterView) (place : Place) (held : Held) → writer_by count ledger ≡ view → HasPlace view.history place → place.step ≡ view.step → IsPut ledger new place.net held → writer_by count new ≡ writer_with view place held
writer_put ledger new count view place held is has step put =
    held_put ledger new count place held
    (subst (λ (v : WriterView). HasPlace v.history place) (sym is) has)
    (step ∙ sym (ap (λ (v : WriterView). v.step) is))
    put
    ∙ ap (λ (v : WriterView). writer_with v place held) is

pub writer_next : (ledger new : LedgerView) (count : ℕ) (view : WriterView) → writer_by count ledger ≡ view → new ≡ after_turn ledger → IsNextStep view (writer_by count new)
writer_next ledger new count view is new_is =
    subst (λ (v : WriterView). IsNextStep v (writer_by count new)) is (subst (λ (l : LedgerView). IsNextStep (writer_by count ledger) (writer_by count l)) (sym new_is) (step_begun ledger count))

pub writer_blank : (nets count : ℕ) (ledger : LedgerView) → ledger ≡ new_ledger nets 10 → writer_by count ledger ≡ record { step = 0; history = record { nets = nets; places = replicate (nets * count) blank } }
writer_blank nets count ledger is =
    let history = blank_first nets count in
    ap (writer_by count) is ∙ (λ t. record { step = 0; history = history t })

-- Each place of a blank history is blank, by whatever order its places are numbered.
blank_there : (n i : ℕ) → slice_index_or (replicate n blank) i blank ≡ blank
blank_there zero i = refl
blank_there (suc n) zero = refl
blank_there (suc n) (suc i) = blank_there n i

pub is_blank : (design : Design) (order : List ℕ) (stim : Stim) → IsBlank (job_of design order stim) (blank_history design stim)
is_blank design order stim = record {
  places = record { nets = refl; all = length-replicate (length design.nets * (length stim.times * stim.rounds)) blank };
  held = λ place within. blank_there (length design.nets * (length stim.times * stim.rounds)) (index_in (blank_history design stim) (place_at (job_of design order stim) place));
}
