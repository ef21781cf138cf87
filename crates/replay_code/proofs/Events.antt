-- Events with one more behind them, and the table of what is forced by them.
use Rattle.std.proofs.Common.{◌≡◌, ℕ, ◌+◌, ◌<◌, ◌≤◌, ◌==◌, Bool, true, false, Option, None, List, [], ◌∷◌, ◌++◌, length, get_or, set, refl, sym, ap, ◌∙◌, subst, ⊎_elim, arith, length-append, length-set, get_or-set_other, if◌then◌else◌}
use Rattle.std.proofs.lemmas.Bool.{cases_lt}
use Rattle.std.proofs.Math.ListN.{get_or-append}
use Rattle.std.proofs.Math.Seq.{get_or-append_seam}
use Rattle.std.proofs.lemmas.Bool.{eqb-false, eqb-true}
use Rattle.std.proofs.lemmas.Grind.{get_or-set_at}
use Rattle.design_cell.specs.declared.value.Value.{Value}
use Rattle.design_circuit.specs.declared.force.Event.{Event}
use Rattle.replay_history.specs.Forced.{AreOrdered, event_at, no_event}
use Rattle.replay_code.specs.Statements.{IsForcedTable, forced_from, forced_now, taken}

pub length_more : (events : List Event) (event : Event) → length (events ++ event ∷ []) ≡ length events + 1
length_more events event = simp length-append (omega arith)

old_at : (events : List Event) (event : Event) (i : ℕ) → i < length events → event_at (events ++ event ∷ []) i ≡ event_at events i
old_at events event i within = get_or-append events (event ∷ []) no_event i within

new_at : (events : List Event) (event : Event) (i : ℕ) → i ≡ length events → event_at (events ++ event ∷ []) i ≡ event
new_at events event i is = rw is (get_or-append_seam events event [] no_event)

-- What holds of each event, and of one more behind them, holds of each.
pub each_more : (P : Event → Type 0) (events : List Event) (event : Event) → ((i : ℕ) → i < length events → P (event_at events i)) → P event → (i : ℕ) → i < length (events ++ event ∷ []) → P (event_at (events ++ event ∷ []) i)
each_more P events event each here i within =
    let long = length_more events event in
    ⊎_elim (λ (h : i < length events). subst P (sym (old_at events event i h)) (each i h))
    (λ (h : length events ≤ i). (let last : i ≡ length events = omega (arith, h, within, long) in subst P (sym (new_at events event i last)) here)) (cases_lt i (length events))

pub ordered_more : (nets : ℕ) (events : List Event) (event : Event) → AreOrdered nets events → ((i : ℕ) → i < length events → (event_at events i).step ≤ event.step) → event.net < nets → AreOrdered nets (events ++ event ∷ [])
ordered_more nets events event ordered up_to within = record { steps = steps; within = each_more (λ e. e.net < nets) events event ordered.within within }
  where
    steps : (i k : ℕ) → i < k → k < length (events ++ event ∷ []) → (event_at (events ++ event ∷ []) i).step ≤ (event_at (events ++ event ∷ []) k).step
    steps i k less below =
        let long = length_more events event in
        ⊎_elim (λ (h : k < length events). rw (old_at events event i (omega (arith, h, less)), old_at events event k h) (ordered.steps i k less h))
        (λ (h : length events ≤ k). (let last : k ≡ length events = omega (arith, h, below, long) in
        rw (old_at events event i (omega (arith, last, less)), new_at events event k last) (up_to i (omega (arith, last, less))))) (cases_lt k (length events))

forced_push : (was : Option Value) (events : List Event) (event : Event) (net : ℕ) → forced_from was (events ++ event ∷ []) net ≡ taken event net (forced_from was events net)
forced_push was [] event net = refl
forced_push was (first ∷ events) event net = forced_push (taken first net was) events event net

-- To what a net is forced with one event more.
pub forced_more : (events : List Event) (event : Event) (net : ℕ) → forced_now (events ++ event ∷ []) net ≡ (if event.net == net then event.value else forced_now events net)
forced_more events event net = forced_push None events event net

pub table_more : (forced : List (Option Value)) (events more : List Event) (event : Event) → IsForcedTable forced events → more ≡ events ++ event ∷ [] → IsForcedTable (set forced event.net event.value) more
table_more forced events more event table is net within = by (event.net == net) (eqb-true _ _) (eqb-false _ _) ∙ sym (ap (λ (l : List Event). forced_now l net) is ∙ forced_more events event net)
  where
    long : length (set forced event.net event.value) ≡ length forced
    long = length-set forced event.net event.value

    by : (same : Bool) → (same ≡ true → event.net ≡ net) → (same ≡ false → event.net ≡ net → ⊥) → get_or (set forced event.net event.value) net None ≡ (if same then event.value else forced_now events net)
    by true equal other = (let e = equal refl in get_or-set_at forced event.net net event.value None (sym e) (omega (arith, e, within, long)))
    by false equal other = (let low : net < length forced = omega (arith, within, long) in
        get_or-set_other forced event.net net event.value None (λ e. other refl (sym e)) ∙ table net low)
