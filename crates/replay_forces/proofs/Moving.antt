-- What becomes due as values move, position by position.
use Rattle.std.proofs.Common.{◌≡◌, ◌≢◌, ℕ, zero, suc, ◌+◌, ◌-◌, ◌*◌, ◌/◌, ◌<◌, ◌≤◌, ◌==◌, ◌||◌, true, false, List, [], ◌∷◌, length, slice_index, sym, ap, ◌∙◌, add-one, arith, subst, ⊎_elim}
use Rattle.std.specs.List.{AllByRecursion, list_any}
use Rattle.std.proofs.Math.Nat.{mul_comm, mul-le-mul_right}
use Rattle.std.proofs.lemmas.Bool.{cases_eq}
use Rattle.design_cell.specs.declared.value.Value.{Value}
use Rattle.design_circuit.specs.Fits.{Fits}
use Rattle.design_circuit.specs.Job.{Job, places_of}
use Rattle.design_circuit.specs.Order.{arguments_of_driver, position_of}
use Rattle.design_circuit.proofs.Rules.{position_in}
use Rattle.replay_fans.specs.Nets.{driver_on, looked_at}
use Rattle.replay_fans.specs.Readings.{AreReaders}
use Rattle.replay_fans.specs.Marks.{AreInputsDue, OnlyMore}
use Rattle.replay_fans.proofs.Positions.{arguments_within, at_there, looked_within, net_within, position_there}
use Rattle.replay_fans.proofs.Marking.{clear_before}
use Rattle.replay_history.proofs.Places.{net_there}
use Rattle.replay_history.proofs.Quiet.{all_two}
use Rattle.replay_history.proofs.Replays.{all_by}
use Rattle.replay_history.proofs.Sweeps.{AreMarked, are_marked}
use Rattle.replay_due.specs.Due.{AreAllDue, GainsAll, HasRoomFor, KeepsOthers, is_due}
use Rattle.replay_due.specs.Readers.{ReadersView, readers_of}
use Rattle.replay_forces.specs.Made.{GivenUnlessDue}
use Rattle.replay_forces.specs.Still.{AreAwaited, AreMarkedTo, AreStillFrom, AreStillTo, IsMarked, IsStill, looked_on, watched}
use Rattle.replay_forces.proofs.Resting.{place_rests, row_back}

-- The nets that belong to positions are nets of the job.
abbrev pub AreNetsOf : Job → (ℕ → List ℕ) → Type 0
AreNetsOf j nets_of = (p : ℕ) → p < j.width → AllByRecursion (λ net. net < j.width) (nets_of p)

pub watched_nets : (j : Job) → Fits j → AreNetsOf j (watched j)
watched_nets j fits p low = (net_within j fits p low, arguments_within j fits p low)

pub looked_nets : (j : Job) → Fits j → AreNetsOf j (looked_on j)
looked_nets j fits p low = looked_within j fits p low

-- Before the first position nothing stands.
none_still : (j : Job) (values : ℕ → Value) (step : ℕ) (nets : List ℕ) → AreStillTo j values step 0 nets
none_still j values step [] = tt
none_still j values step (net ∷ nets) = (λ before. absurd (omega (arith, before)), none_still j values step nets)

pub marked_none : (j : Job) (values : ℕ → Value) (nets_of : ℕ → List ℕ) (step : ℕ) (due : List ℕ) → HasRoomFor due j.width → AreMarkedTo j values nets_of step 0 due
marked_none j values nets_of step due room = record { room = room; still = λ p low clear. none_still j values step (nets_of p) }

-- One position more: its net is still, where it is among the nets.
more_still : (j : Job) → Fits j → (values : ℕ → Value) (step position : ℕ) (nets : List ℕ) → AllByRecursion (λ net. net < j.width) nets → AllByRecursion (λ net. net ≡ slice_index j.order position → IsStill j values step net) nets → AreStillTo j values step position nets → AreStillTo j values step (position + 1) nets
more_still j fits values step position nets within here still =
    all_two (λ net. (net < j.width) × (net ≡ slice_index j.order position → IsStill j values step net)) (λ net. position_of j.order net < position → IsStill j values step net) (λ net. position_of j.order net < position + 1 → IsStill j values step net) nets (λ net facts rests before. one net facts.0 facts.1 rests before) (all_two (λ net. net < j.width) (λ net. net ≡ slice_index j.order position → IsStill j values step net) (λ net. (net < j.width) × (net ≡ slice_index j.order position → IsStill j values step net)) nets (λ net low is. (low, is)) within here) still
  where
    one : (net : ℕ) → net < j.width → (net ≡ slice_index j.order position → IsStill j values step net) → (position_of j.order net < position → IsStill j values step net) → position_of j.order net < position + 1 → IsStill j values step net
    one net low is rests before = ⊎_elim (λ same. is (sym (net_there j fits net low) ∙ ap (slice_index j.order) same)) (λ other. rests (omega (arith, before, other))) (cases_eq (position_of j.order net) position)

-- A position whose net is still leaves what is due as it is.
pub marked_still : (j : Job) → Fits j → (values : ℕ → Value) (nets_of : ℕ → List ℕ) (step position : ℕ) (due : List ℕ) → AreNetsOf j nets_of → IsStill j values step (slice_index j.order position) → AreMarkedTo j values nets_of step position due → AreMarkedTo j values nets_of step (position + 1) due
marked_still j fits values nets_of step position due nets here marked = record {
  room = marked.room;
  still = λ p low clear. more_still j fits values step position (nets_of p) (nets p low) (all_by (λ net. net < j.width) (λ net. net ≡ slice_index j.order position → IsStill j values step net) (nets_of p) (λ net inside same. subst (IsStill j values step) (sym same) here) (nets p low)) (marked.still p low clear);
}

-- One whose net moves makes due what has it among its nets.
pub marked_more : (j : Job) → Fits j → (values : ℕ → Value) (nets_of : ℕ → List ℕ) (step position : ℕ) (old new : List ℕ) → AreNetsOf j nets_of → IsMarked j nets_of position old new → AreMarkedTo j values nets_of step position old → AreMarkedTo j values nets_of step (position + 1) new
marked_more j fits values nets_of step position old new nets is marked = record {
  room = is.room;
  still = λ p low clear. more_still j fits values step position (nets_of p) (nets p low) (all_by (λ net. net ≢ slice_index j.order position) (λ net. net ≡ slice_index j.order position → IsStill j values step net) (nets_of p) (λ net apart same. absurd (apart same)) (is.apart p low clear)) (marked.still p low (clear_before old new p is.more clear));
}

-- Positions between which all values are still leave what is due as it is.
pub marked_to : (j : Job) → Fits j → (values : ℕ → Value) (nets_of : ℕ → List ℕ) (step position next : ℕ) (due : List ℕ)
    → AreNetsOf j nets_of → 0 < step → position ≤ next → next ≤ j.width → AreStillFrom values j.width step position next
    → AreMarkedTo j values nets_of step position due → AreMarkedTo j values nets_of step next due
marked_to j fits values nets_of step position zero due nets later from within still marked =
    let first : position ≡ 0 = omega (arith, from) in
    subst (λ n. AreMarkedTo j values nets_of step n due) first marked
marked_to j fits values nets_of step position (suc n) due nets later from within still marked =
    ⊎_elim (λ same. subst (λ n. AreMarkedTo j values nets_of step n due) same marked)
    (λ other. subst (λ m. AreMarkedTo j values nets_of step m due) (add-one n)
    (marked_still j fits values nets_of step n due nets (here other)
    (marked_to j fits values nets_of step position n due nets later (before other) (omega (arith, within))
    (λ p low less. still p low (omega (arith, less))) marked)))
    (cases_eq position (suc n))
  where
    before : position ≢ suc n → position ≤ n
    before other = omega (arith, from, other)

    here : position ≢ suc n → IsStill j values step (slice_index j.order n)
    here other =
        let low : n < j.width = omega (arith, within) in
        ap values (at_there j fits step n low) ∙ still n (before other) (omega arith)
        ∙ sym (ap values (at_there j fits (step - 1) n low))

-- The places up to the end of a step of the job are places of the job.
pub step_places : (j : Job) (step width place : ℕ) → width ≡ j.width → step < j.moments * j.rounds
    → place < (step + 1) * width → place < places_of j
step_places j step width place width_is less low =
    let steps = j.moments * j.rounds in
    let most : (step + 1) * j.width ≤ steps * j.width = mul-le-mul_right j.width (omega (arith, less)) in
    let turned = mul_comm steps j.width in
    let here : place < (step + 1) * j.width = subst (λ w. place < (step + 1) * w) width_is low in
    omega (arith, most, turned, here)

-- Behind the last position all nets are still that belong to a position that isn't due.
all_still : (j : Job) → Fits j → (values : ℕ → Value) (step : ℕ) (nets : List ℕ) → AllByRecursion (λ net. net < j.width) nets → AreStillTo j values step j.width nets → AllByRecursion (IsStill j values step) nets
all_still j fits values step nets within still =
    all_two (λ net. net < j.width) (λ net. position_of j.order net < j.width → IsStill j values step net) (IsStill j values step) nets (λ net low rests. rests (position_in j fits net low)) within still

-- A net is still whose place has the value of the place as many places before as there are nets.
pub still_at : (j : Job) → Fits j → (values : ℕ → Value) (step position place width : ℕ) (value was : Value) → 0 < step → position < j.width → place ≡ step * j.width + position → width ≡ j.width → value ≡ values place → was ≡ values (place - width) → value ≡ was → IsStill j values step (slice_index j.order position)
still_at j fits values step position place width value was later low place_is width_is value_is was_is same =
    ap values (at_there j fits step position low ∙ sym place_is)
    ∙ (sym value_is ∙ (same ∙ (was_is ∙ ap values (back ∙ sym (at_there j fits (step - 1) position low)))))
  where
    back : place - width ≡ (step - 1) * j.width + position
    back = rw (place_is, width_is) (sym (row_back step j.width position later))

-- What marking the readers of a net does.
gains : (old new readers : List ℕ) → GainsAll old new readers → OnlyMore old new
gains old new readers both p due = both p ∙ ap (λ b. b || list_any (λ position. position == p) readers) due

pub looked_marked : (j : Job) (readers : ReadersView) (position net : ℕ) (old new : List ℕ) → AreReaders j looked_at readers → HasRoomFor old j.width → length new ≡ length old → GainsAll old new (readers_of readers net) → net ≡ slice_index j.order position → IsMarked j (looked_on j) position old new
looked_marked j readers position net old new are room long both net_is = record {
  room = marked.room;
  more = gains old new (readers_of readers net) both;
  apart = λ p low clear. subst (λ n. AllByRecursion (λ read. read ≢ n) (looked_on j p)) net_is (marked.apart p low clear).1;
}
  where
    marked : AreMarked j looked_at net old new
    marked = are_marked j looked_at readers net old new are room long both

-- So does the position of the net itself, which became due before its readers did.
pub watched_marked : (j : Job) → Fits j → (readers : ReadersView) (position net : ℕ) (old mid new : List ℕ) → position < j.width → AreReaders j arguments_of_driver readers → HasRoomFor old j.width → length mid ≡ length old → length new ≡ length mid → is_due mid position ≡ true → KeepsOthers old mid position → GainsAll mid new (readers_of readers net) → net ≡ slice_index j.order position → IsMarked j (watched j) position old new
watched_marked j fits readers position net old mid new within are room first second here others both net_is = record {
  room = marked.room;
  more = λ p due. again p (⊎_elim (λ same. subst (λ k. is_due mid k ≡ true) (sym same) here) (λ other. others p other ∙ due) (cases_eq p position));
  apart = λ p low clear. (apart p low (λ same. own p clear same), subst (λ n. AllByRecursion (λ read. read ≢ n) (arguments_of_driver (driver_on j p))) net_is (marked.apart p low clear).1);
}
  where
    marked : AreMarked j arguments_of_driver net mid new
    marked = are_marked j arguments_of_driver readers net mid new are (omega (arith, room, first)) second both

    again : OnlyMore mid new
    again = gains mid new (readers_of readers net) both

    own : (p : ℕ) → is_due new p ≡ false → p ≡ position → ⊥
    own p clear same =
        let due : is_due new p ≡ true = again p (subst (λ k. is_due mid k ≡ true) (sym same) here) in
        let no : true ≡ false = sym due ∙ clear in cc

    apart : (p : ℕ) → p < j.width → (p ≡ position → ⊥) → slice_index j.order p ≢ slice_index j.order position
    apart p low other same = other (sym (position_there j fits p low) ∙ (ap (position_of j.order) same ∙ position_there j fits position within))

-- At first all is due.
pub awaited_first : (j : Job) (values : ℕ → Value) (due : List ℕ) → HasRoomFor due j.width → AreAllDue due j.width → AreAwaited j values 0 due
awaited_first j values due room all = record {
  room = room;
  later = λ p low clear. absurd (none p low clear);
  looks = λ p low clear. absurd (none p low clear);
}
  where
    none : (p : ℕ) → p < j.width → is_due due p ≡ false → ⊥
    none p low clear = let no : true ≡ false = sym (all p low) ∙ clear in cc

-- What is all due at step 0 is so at step 1.
pub awaited_second : (j : Job) (values : ℕ → Value) (step : ℕ) (due : List ℕ) → step ≡ 0 → AreAwaited j values step due → AreAwaited j values (step + 1) due
awaited_second j values step due first awaited = record {
  room = awaited.room;
  later = λ p low clear. absurd (none p low clear);
  looks = λ p low clear. absurd (none p low clear);
}
  where
    none : (p : ℕ) → p < j.width → is_due due p ≡ false → ⊥
    none p low clear = let later = awaited.later p low clear in omega (arith, later, first)

-- Behind a later step what is ahead is awaited.
pub awaited_next : (j : Job) → Fits j → (values : ℕ → Value) (step : ℕ) (ahead : List ℕ) → 0 < step → AreMarkedTo j values (looked_on j) step j.width ahead → AreAwaited j values (step + 1) ahead
awaited_next j fits values step ahead later marked = record {
  room = marked.room;
  later = λ p low clear. omega (arith, later);
  looks = λ p low clear. (let back : step ≡ step + 1 - 1 = omega arith in subst (λ n. AllByRecursion (IsStill j values n) (looked_on j p)) back (all_still j fits values step (looked_on j p) (looked_nets j fits p low) (marked.still p low clear)));
}

-- At step 0 no place has to rest.
pub first_rests : (j : Job) (values : ℕ → Value) (step : ℕ) (due : List ℕ) → step ≡ 0 → AreAwaited j values step due → GivenUnlessDue j values step due
first_rests j values step due first awaited p low clear =
    absurd (let later = awaited.later p low clear in omega (arith, later, first))

-- At a later step those rest that aren't due once the inputs and what moves are marked.
pub later_rests : (j : Job) → Fits j → (values : ℕ → Value) (step : ℕ) (old mid new : List ℕ) → step < j.moments * j.rounds → AreAwaited j values step old → OnlyMore old mid → AreInputsDue j step mid → OnlyMore mid new → AreMarkedTo j values (watched j) step j.width new → GivenUnlessDue j values step new
later_rests j fits values step old mid new less awaited more inputs again marked p low clear =
    place_rests j fits values step p (awaited.later p low before) less low recorded watches (awaited.looks p low before)
  where
    between : is_due mid p ≡ false
    between = clear_before mid new p again clear

    before : is_due old p ≡ false
    before = clear_before old mid p more between

    recorded : j.recorded (step / j.rounds) (slice_index j.order p) ≡ j.recorded ((step - 1) / j.rounds) (slice_index j.order p)
    recorded = inputs (slice_index j.order p) (net_within j fits p low) (subst (λ k. is_due mid k ≡ false) (sym (position_there j fits p low)) between)

    watches : AllByRecursion (IsStill j values step) (watched j p)
    watches = all_still j fits values step (watched j p) (watched_nets j fits p low) (marked.still p low clear)
