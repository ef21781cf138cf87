-- The replay under the forces of values.
use Rattle.std.proofs.Common.{◌≡◌, ℕ, zero, suc, ◌+◌, ◌<◌, Bool, true, false, Option, None, Some, List, [], ◌∷◌, ◌++◌, length, slice_index_or, unwrap_or, refl, sym, ap, ◌∙◌, arith, subst, add-one, length-append, if◌then◌else◌, ⊎_elim}
use Rattle.std.proofs.Math.ListN.{get_or-append}
use Rattle.std.proofs.Math.Seq.{get_or-append_seam}
use Rattle.std.proofs.lemmas.Bool.{cases_lt}
use Rattle.design_cell.specs.declared.value.Value.{Value}
use Rattle.design_circuit.specs.Fits.{Fits}
use Rattle.design_circuit.specs.Force.{forced_by}
use Rattle.design_circuit.specs.Handed.{IsReplayUnder, shown_of}
use Rattle.design_circuit.specs.History.{HistoryView}
use Rattle.design_circuit.specs.Job.{Job, places_of}
use Rattle.design_circuit.specs.Replay.{Held, blank, held_at, replay_under}
use Rattle.design_circuit.specs.declared.force.Event.{Event}
use Rattle.design_circuit.proofs.Prefix.{prefix}
use Rattle.replay_forces.specs.Changes.{changes, is_same}
use Rattle.replay_forces.specs.ForcesOf.{AreForcesOf, forces_of, forcing, given_by, given_of, given_under, held_as, needed, showing}
use Rattle.replay_forces.proofs.Forced.{changes_agree, changes_force}
use Rattle.replay_forces.proofs.Sameness.{same_value}

-- A place that is forced where its driver gives another value shows the value.
shown_needed : (given value : Value) → unwrap_or (needed given value) given ≡ value
shown_needed given value = either (is_same given value) (λ same. same_value given value same)
  where
    either : (same : Bool) → (same ≡ true → given ≡ value) → unwrap_or (if same then None else Some value) given ≡ value
    either true is = is refl
    either false is = refl

-- Forced as these values want it, the first places show them and keep what their drivers keep.
pub shows_values : (j : Job) (values : ℕ → Value) (forced : ℕ → Option Value) (n : ℕ) → ((k : ℕ) → k < n → forced k ≡ forcing j values k) → replay_under j forced n ≡ showing j values n
unfolding replay_under showing held_at forcing given_of
shows_values j values forced zero agree = refl
shows_values j values forced (suc n) agree = rw (shows_values j values forced n (λ k less. agree k (omega (arith, less))), here) refl
  where
    earlier : ℕ → Held
    earlier k = slice_index_or (showing j values n) k blank

    here : held_at j forced earlier n ≡ held_as j values earlier n
    here = rw (agree n (omega arith), shown_needed (given_by j earlier n) (values n)) refl

-- Their own forces force each place as the values want it.
pub forces_exist : (j : Job) (values : ℕ → Value) → Fits j → AreForcesOf j values (forces_of j values)
unfolding forcing given_of
forces_exist j values fits = record { forced = each; least = changes_agree j (forcing j values) _ (places_of j) (λ k less. sym (changes_force j fits (forcing j values) k less)) }
  where
    each : (place : ℕ) → place < places_of j → forced_by j (forces_of j values) place ≡ needed (given_under j (forced_by j (forces_of j values)) place) (values place)
    each place within = changes_force j fits (forcing j values) place within ∙ ap (λ held. needed (given_by j (λ k. slice_index_or held k blank) place) (values place)) (sym (shows_values j values (forced_by j (forces_of j values)) place (λ k less. changes_force j fits (forcing j values) k (omega (arith, less, within)))))

-- Any forces of the values do.
pub forces_force : (j : Job) (values : ℕ → Value) (events : List Event) → AreForcesOf j values events → (n : ℕ) → n < places_of j + 1 → (k : ℕ) → k < n → forced_by j events k ≡ forcing j values k
unfolding forcing given_of
forces_force j values events are zero few k less = absurd (omega (arith, less))
forces_force j values events are (suc n) few k less = both (forces_force j values events are n (omega (arith, few)))
  where
    here : ((k : ℕ) → k < n → forced_by j events k ≡ forcing j values k) → forced_by j events n ≡ forcing j values n
    here agree = are.forced n (omega (arith, few)) ∙ ap (λ held. needed (given_by j (λ k. slice_index_or held k blank) n) (values n)) (shows_values j values (forced_by j events) n agree)

    both : ((k : ℕ) → k < n → forced_by j events k ≡ forcing j values k) → forced_by j events k ≡ forcing j values k
    both before = ⊎_elim (λ low. before k low) (λ high. (let same : n ≡ k = omega (arith, high, less) in subst (λ m. forced_by j events m ≡ forcing j values m) same (here before))) (cases_lt k n)

pub forces_are_one : (j : Job) (values : ℕ → Value) (events : List Event) → AreForcesOf j values events → events ≡ forces_of j values
forces_are_one j values events are = are.least ∙ changes_agree j (forced_by j events) (forcing j values) (places_of j) (forces_force j values events are (places_of j) (omega arith))

showing_length : (j : Job) (values : ℕ → Value) (n : ℕ) → length (showing j values n) ≡ n
unfolding showing
showing_length j values zero = refl
showing_length j values (suc n) = let earlier = showing_length j values n in simp length-append (omega arith)

showing_stays : (j : Job) (values : ℕ → Value) (n i : ℕ) → i < n → slice_index_or (showing j values (suc n)) i blank ≡ slice_index_or (showing j values n) i blank
unfolding showing
showing_stays j values n i within = let long = showing_length j values n in get_or-append (showing j values n) _ blank i (omega (arith, long))

-- What the first n places have at i is what the first i + 1 places have there.
pub showing_held : (j : Job) (values : ℕ → Value) (n i : ℕ) → i < n → slice_index_or (showing j values n) i blank ≡ slice_index_or (showing j values (i + 1)) i blank
showing_held j values n i within = prefix (showing j values) blank (showing_stays j values) n i within

pub showing_next : (j : Job) (values : ℕ → Value) (place : ℕ) → slice_index_or (showing j values (place + 1)) place blank ≡ held_as j values (λ k. slice_index_or (showing j values place) k blank) place
unfolding showing
showing_next j values place =
    let earlier = showing j values place in
    let held = held_as j values (λ k. slice_index_or earlier k blank) place in
    let seam : slice_index_or (earlier ++ held ∷ []) place blank ≡ held = subst (λ n. slice_index_or (earlier ++ held ∷ []) n blank ≡ held) (showing_length j values place) (get_or-append_seam earlier held [] blank) in
    ap (λ n. slice_index_or (showing j values n) place blank) (add-one place) ∙ seam

-- The replay under the forces of values shows them.
pub forces_show : (j : Job) (values : ℕ → Value) (events : List Event) (history : HistoryView) → AreForcesOf j values events → IsReplayUnder j (forced_by j events) history → (place : ℕ) → place < places_of j → shown_of j history place ≡ values place
forces_show j values events history are is place within =
    ap (λ (held : Held). held.shown)
    (is.held place within ∙ ap (λ held. slice_index_or held place blank) (shows_values j values (forced_by j events) (places_of j) (forces_force j values events are (places_of j) (omega arith)))
    ∙ showing_held j values (places_of j) place within ∙ showing_next j values place)

-- Forcings that agree have one replay.
replay_agrees : (j : Job) (f g : ℕ → Option Value) (n : ℕ) → ((k : ℕ) → k < n → f k ≡ g k) → replay_under j f n ≡ replay_under j g n
unfolding replay_under held_at
replay_agrees j f g zero agree = refl
replay_agrees j f g (suc n) agree = rw (replay_agrees j f g n (λ k less. agree k (omega (arith, less))), agree n (omega arith)) refl

pub changes_replay : (j : Job) (forced : ℕ → Option Value) (history : HistoryView) → Fits j → IsReplayUnder j (forced_by j (changes j forced (places_of j))) history → IsReplayUnder j forced history
changes_replay j forced history fits is = record {
  places = is.places;
  held = λ place within. is.held place within ∙ ap (λ held. slice_index_or held place blank) (replay_agrees j (forced_by j (changes j forced (places_of j))) forced (places_of j) (λ k less. changes_force j fits forced k less));
}
