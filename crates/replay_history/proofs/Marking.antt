-- What is due as a step begins: all that is forced or recorded otherwise.
use Rattle.std.proofs.Common.{◌≡◌, ℕ, ◌+◌, ◌-◌, ◌/◌, ◌<◌, ◌≤◌, true, false, Option, List, length, slice_index, refl, sym, ap, ◌∙◌, arith, subst, ⊎_elim}
use Rattle.std.proofs.lemmas.Bool.{cases_eq}
use Rattle.design_cell.specs.declared.value.Value.{Value}
use Rattle.design_circuit.specs.declared.design.Driver.{Driver}
use Rattle.design_circuit.specs.declared.design.Driver.TheVariants.{Input, Undriven, Constant, Copy, Cell, Register}
use Rattle.design_circuit.specs.declared.force.Event.{Event}
use Rattle.design_circuit.specs.Fits.{Fits}
use Rattle.design_circuit.specs.Force.{forced_at, forced_by}
use Rattle.design_circuit.specs.Job.{Job, at}
use Rattle.design_circuit.specs.Order.{position_of}
use Rattle.design_circuit.proofs.Rules.{position_in}
use Rattle.replay_due.specs.Due.{HasRoomFor, is_due}
use Rattle.replay_fans.specs.Nets.{driver_on}
use Rattle.replay_fans.specs.Marks.{AreInputsDue, OnlyMore}
use Rattle.replay_fans.proofs.Positions.{net_within, position_there}
use Rattle.replay_fans.proofs.Marking.{clear_before}
use Rattle.replay_history.specs.Forced.{ChangesOnlyBy, HasForced, NoEventOf, event_at}
use Rattle.replay_history.specs.Marks.{AreEventsDue}
use Rattle.replay_history.specs.Still.{IsForcedSame, IsRecordedSame}
use Rattle.replay_history.specs.Sweep.{AreAwaited, AreDue}
use Rattle.replay_history.proofs.Places.{net_there}
use Rattle.replay_history.proofs.Sweeps.{due_first}
use Rattle.replay_history.proofs.Writing.{net_at, step_there}

-- One event more is due.
pub events_more : (j : Job) (events : List Event) (from n : ℕ) (old new : List ℕ) → OnlyMore old new → is_due new (position_of j.order (event_at events n).net) ≡ true → AreEventsDue j events from n old → AreEventsDue j events from (n + 1) new
events_more j events from n old new more here due i low high =
    ⊎_elim (λ same. (let P : ℕ → Type 0 = λ k. is_due new (position_of j.order (event_at events k).net) ≡ true in subst P (sym same) here)) (λ differ. more (position_of j.order (event_at events i).net) (due i low (omega (arith, high, differ)))) (cases_eq i n)

-- A net is forced as one step before, where the values by which nets are forced changed only at others.
pub forced_but_for : (j : Job) → Fits j → (events : List Event) (step from to : ℕ) (old new : List (Option Value)) → HasForced j.width events step new → HasForced j.width events (step - 1) old → ChangesOnlyBy events from to old new → (net : ℕ) → net < j.width → NoEventOf events from to net → IsForcedSame j (forced_by j events) step net
forced_but_for j fits events step from to old new now before changes net within none =
    let low = position_in j fits net within in
    let here : forced_by j events (at j step net) ≡ forced_at events step net = rw (step_there j step (position_of j.order net) low, net_at j step (position_of j.order net) low, net_there j fits net within) refl in
    let there : forced_by j events (at j (step - 1) net) ≡ forced_at events (step - 1) net = rw (step_there j (step - 1) (position_of j.order net) low, net_at j (step - 1) (position_of j.order net) low, net_there j fits net within) refl in
    here ∙ (sym (now.value net within) ∙ (changes net none ∙ (before.value net within ∙ sym there)))

recorded_by : (j : Job) (step net : ℕ) (driver : Driver) → j.recorded (step / j.rounds) net ≡ j.recorded ((step - 1) / j.rounds) net → IsRecordedSame j step net driver
recorded_by j step net Input same = same
recorded_by j step net Undriven same = tt
recorded_by j step net (Constant bit) same = tt
recorded_by j step net (Copy argument) same = tt
recorded_by j step net (Cell table pins) same = tt
recorded_by j step net (Register latching) same = tt

-- With events and inputs marked each net rests but for what it reads.
pub due_marked_first : (j : Job) → Fits j → (forced : ℕ → Option Value) (events : List Event) (step from to : ℕ) (old mid new : List ℕ) → length mid ≡ length old → length new ≡ length mid → OnlyMore old mid → OnlyMore mid new → AreEventsDue j events from to mid → AreInputsDue j step new → ((net : ℕ) → net < j.width → NoEventOf events from to net → IsForcedSame j forced step net) → AreAwaited j forced step old → AreDue j forced step 0 new
due_marked_first j fits forced events step from to old mid new first second more again marked inputs forces awaited =
    due_first j forced step old new room kept same recorded awaited
  where
    room : HasRoomFor new j.width
    room = let had = awaited.room in omega (arith, had, first, second)

    kept : (p : ℕ) → p < j.width → is_due new p ≡ false → is_due old p ≡ false
    kept p low clear = clear_before old mid p more (clear_before mid new p again clear)

    same : (p : ℕ) → p < j.width → is_due new p ≡ false → IsForcedSame j forced step (slice_index j.order p)
    same p low clear = forces (slice_index j.order p) (net_within j fits p low) (λ i start end of. meets p low clear i start end of)
      where
        meets : (p : ℕ) → p < j.width → is_due new p ≡ false → (i : ℕ) → from ≤ i → i < to → (event_at events i).net ≡ slice_index j.order p → ⊥
        meets p low clear i start end of =
            let position : position_of j.order (event_at events i).net ≡ p = ap (position_of j.order) of ∙ position_there j fits p low in
            let P : ℕ → Type 0 = λ k. is_due mid k ≡ true in
            let due : is_due mid p ≡ true = subst P position (marked i start end) in
            let no : true ≡ false = sym (again p due) ∙ clear in cc

    recorded : (p : ℕ) → p < j.width → is_due new p ≡ false → IsRecordedSame j step (slice_index j.order p) (driver_on j p)
    recorded p low clear =
        let P : ℕ → Type 0 = λ k. is_due new k ≡ false in
        recorded_by j step (slice_index j.order p) (driver_on j p) (inputs (slice_index j.order p) (net_within j fits p low) (subst P (sym (position_there j fits p low)) clear))
