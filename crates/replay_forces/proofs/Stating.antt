-- Changes by statements as they are made.
use Rattle.std.proofs.Common.{◌≡◌, ℕ, ◌+◌, ◌-◌, ◌*◌, ◌%◌, ◌<◌, ◌≤◌, true, false, Option, None, List, ◌++◌, min, replicate, set, slice_index, slice_index_or, refl, sym, ap, ◌∙◌, arith, subst}
use Rattle.std.proofs.lemmas.List.{get_or-replicate}
use Rattle.std.proofs.lemmas.Nat.{mod-mul-add}
use Rattle.design_cell.specs.declared.value.Value.{Value}
use Rattle.design_circuit.specs.Fits.{Fits}
use Rattle.design_circuit.specs.Force.{forced_by}
use Rattle.design_circuit.specs.Job.{Job}
use Rattle.design_circuit.specs.Order.{position_of}
use Rattle.design_circuit.specs.declared.force.Event.{Event}
use Rattle.replay_fans.proofs.Positions.{net_within, position_there}
use Rattle.replay_history.specs.Forced.{ChangesOnlyBy, HasForced, event_at}
use Rattle.replay_history.specs.Marks.{AreEventsDue}
use Rattle.replay_history.proofs.Writing.{net_at, step_there}
use Rattle.replay_due.specs.Due.{is_due}
use Rattle.replay_forces.specs.Changes.{change_at, forced_before, unless_same}
use Rattle.replay_forces.specs.Made.{AreChangesTo, HasChangesTo, RestButFor, StatedUnlessDue}
use Rattle.replay_forces.specs.Made as made
use Rattle.replay_forces.specs.declared.statements.Changes.{Changes}
use Rattle.replay_forces.proofs.Rows.{first_step, later_step, made_more, made_to, row_at}

-- To what a net is forced at a step, by the last of the statements up to it.
forced_there : (j : Job) → Fits j → (statements : List Event) (step : ℕ) (forced : List (Option Value)) (p : ℕ) → p < j.width → HasForced j.width statements step forced → slice_index_or forced (slice_index j.order p) None ≡ forced_by j statements (step * j.width + p)
forced_there j fits statements step forced p low has =
    let here : forced_by j statements (step * j.width + p) ≡ forced_by j statements (step * j.width + p) = refl in
    has.value (slice_index j.order p) (net_within j fits p low) ∙ rw (step_there j step p low, net_at j step p low) refl

-- Values by which each net is forced one step before, or before step 0 not at all.
abbrev pub WereForced : Job → List Event → ℕ → List (Option Value) → Type 0
WereForced j statements step forced = (p : ℕ) → p < j.width → slice_index_or forced (slice_index j.order p) None ≡ forced_before j (forced_by j statements) (step * j.width + p)

-- At first no net was forced.
pub were_none : (j : Job) → Fits j → (statements : List Event) (forced : List (Option Value)) → forced ≡ replicate j.width None → WereForced j statements 0 forced
were_none j fits statements forced none p low =
    let first : 0 * j.width + p < j.width = omega (arith, low) in
    ap (λ values. slice_index_or values (slice_index j.order p) None) none
    ∙ (get_or-replicate j.width (slice_index j.order p) None None (net_within j fits p low) ∙ sym (first_step j None (forced_by j statements) (0 * j.width + p) first))

-- What they are forced to at a step they were one step later.
pub were_forced : (j : Job) → Fits j → (statements : List Event) (step : ℕ) (forced : List (Option Value)) → HasForced j.width statements step forced → WereForced j statements (step + 1) forced
were_forced j fits statements step forced has p low =
    let later : j.width ≤ (step + 1) * j.width + p = omega arith in
    let back : step * j.width + p ≡ (step + 1) * j.width + p - j.width = omega arith in
    forced_there j fits statements step forced p low has
    ∙ (ap (forced_by j statements) back ∙ sym (later_step j None (forced_by j statements) ((step + 1) * j.width + p) later))

-- A net that no new statement names is forced as one step before.
pub rest_but : (j : Job) → Fits j → (statements : List Event) (step from to : ℕ) (old new : List (Option Value)) → WereForced j statements step old → HasForced j.width statements step new → ChangesOnlyBy statements from to old new → RestButFor j statements from to step
rest_but j fits statements step from to old new were has changes p low none =
    sym (forced_there j fits statements step new p low has) ∙ (changes (slice_index j.order p) none ∙ were p low)

-- So are those that aren't due, once the nets of the new statements are.
pub marked_rest : (j : Job) → Fits j → (statements : List Event) (step from to : ℕ) (due : List ℕ) → AreEventsDue j statements from to due → RestButFor j statements from to step → StatedUnlessDue j statements step due
marked_rest j fits statements step from to due marked rest p low clear = record { same = still; forces = still }
  where
    meets : (i : ℕ) → from ≤ i → i < to → (event_at statements i).net ≡ slice_index j.order p → ⊥
    meets i start end of =
        let position : position_of j.order (event_at statements i).net ≡ p = ap (position_of j.order) of ∙ position_there j fits p low in
        let P : ℕ → Type 0 = λ k. is_due due k ≡ true in
        let here : is_due due p ≡ true = subst P position (marked i start end) in
        let no : true ≡ false = sym here ∙ clear in cc

    still : forced_by j statements (step * j.width + p) ≡ forced_before j (forced_by j statements) (step * j.width + p)
    still = rest p low meets

-- A step without new statements is made as it is.
pub step_rests : (j : Job) (statements : List Event) (step from to : ℕ) (changes : Changes) → to ≤ from → RestButFor j statements from to step → HasChangesTo j statements (step * j.width) changes → HasChangesTo j statements ((step + 1) * j.width) changes
step_rests j statements step from to changes none rest has = record {
  made = subst P whole (made_to j None (forced_by j statements) (forced_by j statements) step 0 j.width changes.due changes.row.items changes.events.items (omega arith) (omega arith) (λ p low high. has.none p) rests (subst P start has.made));
  room = has.room;
  none = has.none;
}
  where
    P : ℕ → Type 0
    P n = AreChangesTo j statements n changes.row.items changes.events.items

    start : step * j.width ≡ step * j.width + 0
    start = omega arith

    whole : step * j.width + min j.width j.width ≡ (step + 1) * j.width
    whole = omega arith

    rests : StatedUnlessDue j statements step changes.due
    rests p low clear =
        let still = rest p low (λ i start end of. omega (arith, start, end, none)) in
        record { same = still; forces = still }

-- The place at a position is made with what its net is forced to.
pub net_more : (j : Job) → Fits j → (statements : List Event) (step position net : ℕ) (forced row : List (Option Value)) (was force : Option Value) (old new : List Event) → position < j.width → net ≡ slice_index j.order position → HasForced j.width statements step forced → was ≡ slice_index_or row position None → force ≡ slice_index_or forced net None → new ≡ old ++ unless_same was force (made.event_at record { step = step; position = position; net = net } force) → AreChangesTo j statements (step * j.width + position) row old → AreChangesTo j statements (step * j.width + position + 1) (set row position force) new
net_more j fits statements step position net forced row was force old new low net_is has was_is force_is new_is is =
    made_more j None f f n position row force old new some position_is force_true (new_is ∙ ap (λ es. old ++ es) change) is
  where
    f : ℕ → Option Value
    f = forced_by j statements

    n : ℕ
    n = step * j.width + position

    some : 0 < j.width
    some = omega (arith, low)

    position_is : position ≡ n % j.width
    position_is = sym (mod-mul-add step j.width position low)

    force_true : force ≡ f n
    force_true = force_is ∙ (ap (λ k. slice_index_or forced k None) net_is ∙ forced_there j fits statements step forced position low has)

    was_true : was ≡ forced_before j f n
    was_true = was_is ∙ row_at j None f n position row some position_is is.row

    change : unless_same was force (made.event_at record { step = step; position = position; net = net } force) ≡ change_at j f n
    change = rw (was_true, force_true, net_is, step_there j step position low, net_at j step position low) refl
