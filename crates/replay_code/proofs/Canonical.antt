-- Changes release only nets that are forced.
use Rattle.std.proofs.Common.{◌≡◌, ℕ, zero, suc, ◌+◌, ◌-◌, ◌*◌, ◌/◌, ◌%◌, ◌<◌, ◌≤◌, ◌==◌, Bool, true, false, Option, None, Some, List, [], ◌∷◌, ◌++◌, slice_index, refl, sym, ap, ◌∙◌, subst, arith, ⊎_elim, append_assoc, append-nil, true≢false, if◌then◌else◌}
use Rattle.std.proofs.lemmas.Bool.{cases_Bool, cases_lt, cond-false, cond-true, eq-eqb, eqb-true, ne_eqb}
use Rattle.std.proofs.lemmas.Nat.{div-add-mod', mod-mul-add}
use Rattle.std.proofs.Math.Nat.{mod-lt}
use Rattle.design_cell.specs.declared.value.Value.{Value}
use Rattle.design_circuit.specs.Fits.{Fits}
use Rattle.design_circuit.specs.Job.{Job, net_of, places_of}
use Rattle.design_circuit.specs.declared.force.Event.{Event}
use Rattle.design_circuit.proofs.Rules.{some_width}
use Rattle.replay_forces.specs.Changes.{change_at, changes, event_of, forced_before, is_same_force, unless_same}
use Rattle.replay_forces.proofs.Rows.{between, first_step, later_step}
use Rattle.replay_forces.proofs.Sameness.{same_force}
use Rattle.replay_code.specs.Statements.{forced_now}
use Rattle.replay_code.proofs.Events.{forced_more}
use Rattle.replay_code.proofs.Forcing.{ReleasesForced}

-- Each event of a list, behind others, releases a net only where that is forced.
abbrev pub AllReleaseForced : List Event → List Event → Type 0
AllReleaseForced done [] = Unit {0}
AllReleaseForced done (event ∷ events) = ReleasesForced done event × AllReleaseForced (done ++ event ∷ []) events

push : (done events : List Event) (event : Event) → AllReleaseForced done events → ReleasesForced (done ++ events) event → AllReleaseForced done (events ++ event ∷ [])
push done [] event all here = (subst (λ (l : List Event). ReleasesForced l event) (append-nil done) here, tt)
push done (first ∷ events) event all here =
    (all.0, push (done ++ first ∷ []) events event all.1 (subst (λ (l : List Event). ReleasesForced l event) (sym (append_assoc done (first ∷ []) events)) here))

-- To what a net is forced when a place has an event or none.
with_change : (events : List Event) (was force : Option Value) (event : Event) (net : ℕ) → event.value ≡ force → (event.net ≡ net → forced_now events net ≡ was) → forced_now (events ++ unless_same was force event) net ≡ (if event.net == net then force else forced_now events net)
with_change events was force event net value known = ⊎_elim kept changed (cases_Bool (is_same_force was force))
  where
    either : (b : Bool) → (event.net == net) ≡ b → was ≡ force → forced_now events net ≡ (if b then force else forced_now events net)
    either true hit same = known (eqb-true event.net net hit) ∙ same
    either false hit same = refl

    kept : is_same_force was force ≡ true → forced_now (events ++ unless_same was force event) net ≡ (if event.net == net then force else forced_now events net)
    kept same =
        ap (λ (es : List Event). forced_now es net) (ap (λ (es : List Event). events ++ es) (cond-true (is_same_force was force) [] (event ∷ []) same) ∙ append-nil events)
        ∙ either (event.net == net) refl (same_force was force same)

    changed : is_same_force was force ≡ false → forced_now (events ++ unless_same was force event) net ≡ (if event.net == net then force else forced_now events net)
    changed other =
        ap (λ (es : List Event). forced_now (events ++ es) net) (cond-false (is_same_force was force) [] (event ∷ []) other)
        ∙ (forced_more events event net ∙ ap (λ v. if event.net == net then v else forced_now events net) value)

-- A place one step later is of the same position, and of fewer places than there are nets no two are.
one_later : (n w : ℕ) → 0 < w → (n + w) % w ≡ n % w
one_later n w some =
    let whole = div-add-mod' n w in
    let next : n + w ≡ (n / w + 1) * w + n % w = omega (arith, whole) in
    ap (λ k. k % w) next ∙ mod-mul-add (n / w + 1) w (n % w) (mod-lt n some)

differ : (n k w : ℕ) → n < k → k < n + w → k % w ≡ n % w → ⊥
differ n k w from below same = between n k w (omega (arith, from)) below same

-- Behind the changes of the first places each net is forced as one step before its next place.
last_forced : (j : Job) → Fits j → (f : ℕ → Option Value) (n : ℕ) → n ≤ places_of j → (k : ℕ) → n ≤ k → k < n + j.width → forced_now (changes j f n) (net_of j k) ≡ forced_before j f k
unfolding changes
last_forced j fits f zero few k from below = sym (first_step j None f k (omega (arith, below)))
last_forced j fits f (suc n) few k from below = one_change (last_forced j fits f n (omega (arith, few)))
  where
    some : 0 < j.width
    some = some_width j.width (j.moments * j.rounds) n (omega (arith, few))

    Was : Type 0
    Was = (i : ℕ) → n ≤ i → i < n + j.width → forced_now (changes j f n) (net_of j i) ≡ forced_before j f i

    known : Was → net_of j n ≡ net_of j k → forced_now (changes j f n) (net_of j k) ≡ forced_before j f n
    known was same = ap (forced_now (changes j f n)) (sym same) ∙ was n (omega arith) (omega (arith, some))

    apart : k < n + j.width → net_of j n ≡ net_of j k → ⊥
    apart low same =
        let one = mod-lt n some in
        let other = mod-lt k some in
        differ n k j.width (omega (arith, from)) low (sym (fits.ordering.once (n % j.width) (k % j.width) (omega (arith, one, fits.all)) (omega (arith, other, fits.all)) same))

    within : Was → k < n + j.width → (if net_of j n == net_of j k then f n else forced_now (changes j f n) (net_of j k)) ≡ forced_before j f k
    within was low =
        ap (λ b. if b then f n else forced_now (changes j f n) (net_of j k)) (ne_eqb (net_of j n) (net_of j k) (apart low))
        ∙ was k (omega (arith, from)) low

    beyond : n + j.width ≤ k → (if net_of j n == net_of j k then f n else forced_now (changes j f n) (net_of j k)) ≡ forced_before j f k
    beyond high =
        let at : k ≡ n + j.width = omega (arith, high, below) in
        let same : net_of j n ≡ net_of j k = ap (slice_index j.order) (sym (ap (λ i. i % j.width) at ∙ one_later n j.width some)) in
        let back : n ≡ k - j.width = omega (arith, at) in
        ap (λ b. if b then f n else forced_now (changes j f n) (net_of j k)) (eq-eqb (net_of j n) (net_of j k) same)
        ∙ (ap f back ∙ sym (later_step j None f k (omega (arith, at))))

    one_change : Was → forced_now (changes j f n ++ change_at j f n) (net_of j k) ≡ forced_before j f k
    one_change was =
        with_change (changes j f n) (forced_before j f n) (f n) (event_of j n (f n)) (net_of j k) refl (known was)
        ∙ ⊎_elim (within was) beyond (cases_lt k (n + j.width))

was_forced : (was force : Option Value) → is_same_force was force ≡ false → force ≡ None → (value : Value) × (was ≡ Some value)
was_forced (Some value) force other none = (value, refl)
was_forced None force other none = absurd (true≢false (sym (ap (is_same_force None) none) ∙ other))

-- So changes release only what is forced.
pub changes_release_forced : (j : Job) → Fits j → (f : ℕ → Option Value) (n : ℕ) → n ≤ places_of j → AllReleaseForced [] (changes j f n)
unfolding changes
changes_release_forced j fits f zero few = tt
changes_release_forced j fits f (suc n) few = one_change (changes_release_forced j fits f n (omega (arith, few)))
  where
    some : 0 < j.width
    some = some_width j.width (j.moments * j.rounds) n (omega (arith, few))

    same : Bool
    same = is_same_force (forced_before j f n) (f n)

    event : Event
    event = event_of j n (f n)

    kept : AllReleaseForced [] (changes j f n) → same ≡ true → AllReleaseForced [] (changes j f n ++ change_at j f n)
    kept earlier is = subst (AllReleaseForced []) (sym (ap (λ (es : List Event). changes j f n ++ es) (cond-true same [] (event ∷ []) is) ∙ append-nil (changes j f n))) earlier

    here : same ≡ false → ReleasesForced (changes j f n) event
    here other none =
        let was = was_forced (forced_before j f n) (f n) other none in
        (was.0, last_forced j fits f n (omega (arith, few)) n (omega arith) (omega (arith, some)) ∙ was.1)

    changed : AllReleaseForced [] (changes j f n) → same ≡ false → AllReleaseForced [] (changes j f n ++ change_at j f n)
    changed earlier other = subst (λ (es : List Event). AllReleaseForced [] (changes j f n ++ es)) (sym (cond-false same [] (event ∷ []) other)) (push [] (changes j f n) event earlier (here other))

    one_change : AllReleaseForced [] (changes j f n) → AllReleaseForced [] (changes j f n ++ change_at j f n)
    one_change earlier = ⊎_elim (kept earlier) (changed earlier) (cases_Bool same)
