-- The changes of a forcing force each place as it says.
use Rattle.std.proofs.Common.{◌≡◌, ◌≢◌, ℕ, zero, suc, ◌+◌, ◌-◌, ◌*◌, ◌/◌, ◌%◌, ◌<◌, ◌≤◌, ◌==◌, ◌&&◌, Bool, true, false, cond, Option, None, Some, List, [], ◌∷◌, ◌++◌, map, find, reverse, slice_index, nat_le, nat_lt, refl, sym, ap, ◌∙◌, arith, subst, ⊎_elim, if◌then◌else◌, ◌⊎◌, add-one}
use Rattle.std.specs.Prelude.{option_and_then}
use Rattle.std.specs.List.{AllByRecursion}
use Rattle.std.specs.List.Sorted.{IsStrictlyIncreasing}
use Rattle.std.proofs.lemmas.Bool.{cases_eq, cases_lt, cases_Bool, cond-true, cond-false, eq-eqb, ne_eqb, le-leb, lt-leb, lt-ltb, le-ltb, and_from, and_left, and_right}
use Rattle.std.proofs.lemmas.Grind.{common_steps}
use Rattle.std.proofs.lemmas.List.{reverse-append, append-nil}
use Rattle.std.proofs.lemmas.Nat.{div-mul-add, mod-mul-add}
use Rattle.std.proofs.Math.Nat.{mod-lt, mul-le-mul_right, mul_comm}
use Rattle.design_cell.specs.declared.value.Value.{Value}
use Rattle.design_circuit.specs.Filling.{IsPlace}
use Rattle.design_circuit.specs.Fits.{Fits, place_at}
use Rattle.design_circuit.specs.Force.{AreEvents, forced_at, forced_by, is_up_to, place_of}
use Rattle.design_circuit.specs.Job.{Job, number_of, net_of, places_of, step_of}
use Rattle.design_circuit.specs.declared.force.Event.{Event}
use Rattle.design_circuit.proofs.Numbers.{is_place_at, number_of_place_at}
use Rattle.design_circuit.proofs.Rules.{some_width}
use Rattle.replay_forces.specs.Changes.{changes, event_of, forced_before, is_same_force, unless_same}
use Rattle.replay_forces.proofs.Ordered.{all_from, all_map, all_push, increasing_push, map_push}
use Rattle.replay_forces.proofs.Sameness.{same_force}

-- One event more counts where it is of the net and up to the step.
seen_more : (hit : Bool) (e : Event) (rest : Option Event) → option_and_then (λ (event : Event). event.value) (cond hit (Some e) rest) ≡ cond hit e.value (option_and_then (λ (event : Event). event.value) rest)
seen_more true e rest = refl
seen_more false e rest = refl

pub forced_more : (events : List Event) (e : Event) (step net : ℕ) → forced_at (events ++ e ∷ []) step net ≡ cond (is_up_to step net e) e.value (forced_at events step net)
forced_more events e step net =
    ap (λ es. option_and_then (λ (event : Event). event.value) (find (is_up_to step net) es)) (reverse-append events (e ∷ []))
    ∙ seen_more (is_up_to step net e) e (find (is_up_to step net) (reverse events))

-- To what the net at a position is forced at a step, of the forcing of the first n places: as its last place among them.
abbrev latest : (ℕ → Option Value) → ℕ → ℕ → ℕ → ℕ → Option Value
latest f w n p zero = if nat_lt p n then f p else None
latest f w n p (suc s) = if nat_lt (suc s * w + p) n then f (suc s * w + p) else latest f w n p s

lower : {A : Type 0} (a b : ℕ) (x y : A) → a < b → (if nat_lt a b then x else y) ≡ x
lower a b x y less = cond-true (nat_lt a b) x y (lt-ltb a b less)

upper : {A : Type 0} (a b : ℕ) (x y : A) → b ≤ a → (if nat_lt a b then x else y) ≡ y
upper a b x y more = cond-false (nat_lt a b) x y (le-ltb a b more)

latest_none : (f : ℕ → Option Value) (w p s : ℕ) → latest f w 0 p s ≡ None
latest_none f w p zero = upper p 0 (f p) None (omega arith)
latest_none f w p (suc s) = upper (suc s * w + p) 0 (f (suc s * w + p)) (latest f w 0 p s) (omega arith) ∙ latest_none f w p s

-- One place more of another net, or of a later step, changes nothing.
one_more : {A : Type 0} (k n : ℕ) (x y z : A) → k ≢ n → y ≡ z → (if nat_lt k (n + 1) then x else y) ≡ (if nat_lt k n then x else z)
one_more k n x y z other same = ⊎_elim (λ less. lower k (n + 1) x y (omega arith) ∙ sym (lower k n x z less)) (λ more. upper k (n + 1) x y (above more) ∙ (same ∙ sym (upper k n x z more))) (cases_lt k n)
  where
    above : n ≤ k → n + 1 ≤ k
    above more = ⊎_elim (λ less. omega (arith, less)) (λ low. absurd (other (omega (arith, low, more)))) (cases_lt n k)

latest_apart : (f : ℕ → Option Value) (w n p s : ℕ) → ((t : ℕ) → t ≤ s → t * w + p ≢ n) → latest f w (n + 1) p s ≡ latest f w n p s
latest_apart f w n p zero apart = one_more p n (f p) None None (λ same. apart 0 (omega arith) (omega (arith, same))) refl
latest_apart f w n p (suc s) apart = one_more (suc s * w + p) n (f (suc s * w + p)) _ _ (apart (suc s) (omega arith)) (latest_apart f w n p s (λ t few. apart t (omega (arith, few))))

row_above : (w s t p : ℕ) → s < t → s * w + p + w ≤ t * w + p
row_above w s t p less = let more : (s + 1) * w ≤ t * w = mul-le-mul_right w (omega arith) in omega (arith, more)

-- From its own place on a net is forced as that place says.
latest_new : (f : ℕ → Option Value) (w n p t s : ℕ) → 0 < w → t * w + p ≡ n → t ≤ s → latest f w (n + 1) p s ≡ f n
latest_new f w n p t zero some at few =
    let t_is : t ≡ 0 = omega (arith, few) in
    let p_is : p ≡ n = sym (rw t_is (omega arith)) ∙ at in
    rw p_is (lower n (n + 1) (f n) None (omega arith))
latest_new f w n p t (suc s) some at few = ⊎_elim (λ same. here same) (λ other. later (latest_new f w n p t s some at) other) (cases_eq t (suc s))
  where
    here : t ≡ suc s → latest f w (n + 1) p (suc s) ≡ f n
    here same =
        let place : suc s * w + p ≡ n = rw (sym same) at in
        lower (suc s * w + p) (n + 1) (f (suc s * w + p)) _ (omega (arith, place)) ∙ ap f place

    later : (t ≤ s → latest f w (n + 1) p s ≡ f n) → (t ≡ suc s → ⊥) → latest f w (n + 1) p (suc s) ≡ f n
    later earlier other =
        let before : t ≤ s = under t s few other in
        let above = row_above w t (suc s) p (omega (arith, before)) in
        upper (suc s * w + p) (n + 1) (f (suc s * w + p)) _ (omega (arith, above, at, some)) ∙ earlier before
      where
        under : (t s : ℕ) → t ≤ suc s → (t ≡ suc s → ⊥) → t ≤ s
        under t s few other = ⊎_elim (λ less. omega (arith, less)) (λ more. absurd (other (omega (arith, few, more)))) (cases_lt t (suc s))

latest_top : (f : ℕ → Option Value) (w n p s : ℕ) → s * w + p < n → latest f w n p s ≡ f (s * w + p)
latest_top f w n p zero less = let zero_is : 0 * w + p ≡ p = omega arith in lower p n (f p) None (omega (arith, less)) ∙ ap f (sym zero_is)
latest_top f w n p (suc s) less = lower (suc s * w + p) n (f (suc s * w + p)) _ less

-- Before that it is forced as its place one step before says.
latest_old : (j : Job) (f : ℕ → Option Value) (n p t s : ℕ) → p < j.width → t * j.width + p ≡ n → t ≤ s → latest f j.width n p s ≡ forced_before j f n
latest_old j f n p t zero low at few =
    let t_is : t ≡ 0 = omega (arith, few) in
    let p_is : p ≡ n = sym (rw t_is (omega arith)) ∙ at in
    rw p_is (upper n n (f n) None (omega arith)) ∙ sym (lower n j.width None (f (n - j.width)) (omega (arith, low, p_is)))
latest_old j f n p t (suc s) low at few = ⊎_elim (λ less. here (latest_old j f n p t s low at) less) (λ more. later more) (cases_lt t (suc s))
  where
    w : ℕ
    w = j.width

    here : (t ≤ s → latest f w n p s ≡ forced_before j f n) → t < suc s → latest f w n p (suc s) ≡ forced_before j f n
    here earlier less =
        let above = row_above w t (suc s) p less in
        upper (suc s * w + p) n (f (suc s * w + p)) _ (omega (arith, above, at)) ∙ earlier (omega (arith, less))

    later : suc s ≤ t → latest f w n p (suc s) ≡ forced_before j f n
    later more =
        let same : t ≡ suc s = omega (arith, more, few) in
        let place : suc s * w + p ≡ n = rw (sym same) at in
        let row : suc s * w ≡ s * w + w = omega arith in
        let back : s * w + p ≡ n - w = omega (arith, place, row) in
        upper (suc s * w + p) n (f (suc s * w + p)) _ (omega (arith, place))
        ∙ (latest_top f w n p s (omega (arith, place, row, low)) ∙ ap f back)
        ∙ sym (upper n w None (f (n - w)) (omega (arith, place, row)))

-- What the events that are seen say, when a place has an event or none.
with_change : (j : Job) (events : List Event) (was force : Option Value) (place step net : ℕ) → (is_up_to step net (event_of j place force) ≡ true → forced_at events step net ≡ was) → forced_at (events ++ unless_same was force (event_of j place force)) step net ≡ cond (is_up_to step net (event_of j place force)) force (forced_at events step net)
with_change j events was force place step net known = ⊎_elim (λ same. kept same) (λ other. changed other) (cases_Bool (is_same_force was force))
  where
    e : Event
    e = event_of j place force

    kept : is_same_force was force ≡ true → forced_at (events ++ unless_same was force e) step net ≡ cond (is_up_to step net e) force (forced_at events step net)
    kept same = ap (λ es. forced_at es step net) (ap (λ es. events ++ es) (cond-true (is_same_force was force) [] (e ∷ []) same) ∙ append-nil events) ∙ sym (either (is_up_to step net e) (λ hit. known hit ∙ same_force was force same))
      where
        either : (hit : Bool) → (hit ≡ true → forced_at events step net ≡ force) → cond hit force (forced_at events step net) ≡ forced_at events step net
        either true is = sym (is refl)
        either false is = refl

    changed : is_same_force was force ≡ false → forced_at (events ++ unless_same was force e) step net ≡ cond (is_up_to step net e) force (forced_at events step net)
    changed other = ap (λ es. forced_at (events ++ es) step net) (cond-false (is_same_force was force) [] (e ∷ []) other) ∙ forced_more events e step net

-- Whether the event of a place is of the net at a position, up to a step.
hits : (j : Job) → Fits j → (n step position : ℕ) (force : Option Value) → n < places_of j → position < j.width → is_up_to step (slice_index j.order position) (event_of j n force) ≡ ((n % j.width == position) && nat_le (n / j.width) step)
hits j fits n step position force within low = ap (λ b. b && nat_le (n / j.width) step) (same_net (cases_eq (n % j.width) position))
  where
    some : 0 < j.width
    some = some_width j.width (j.moments * j.rounds) n within

    index : n % j.width < j.width
    index = mod-lt n some

    same_net : ((n % j.width ≡ position) ⊎ (n % j.width ≡ position → ⊥)) → (net_of j n == slice_index j.order position) ≡ (n % j.width == position)
    same_net cases = ⊎_elim
        (λ same. eq-eqb (net_of j n) (slice_index j.order position) (ap (slice_index j.order) same) ∙ sym (eq-eqb (n % j.width) position same))
        (λ other. ne_eqb (net_of j n) (slice_index j.order position) (λ nets. other (fits.ordering.once (n % j.width) position (omega (arith, index, fits.all)) (omega (arith, low, fits.all)) nets)) ∙ sym (ne_eqb (n % j.width) position other))
        cases

whole : (j : Job) (n : ℕ) → 0 < j.width → n / j.width * j.width + n % j.width ≡ n
whole j n some = let turned = mul_comm (n / j.width) j.width in omega (arith, some, turned)

-- So does one place more, whose event is seen where it is of the net and up to the step.
one_seen : (j : Job) (f : ℕ → Option Value) (n p s : ℕ) → 0 < j.width → p < j.width → cond ((n % j.width == p) && nat_le (n / j.width) s) (f n) (latest f j.width n p s) ≡ latest f j.width (n + 1) p s
one_seen j f n p s some low = ⊎_elim (λ same. of_net same) (λ other. other_net other) (cases_eq (n % j.width) p)
  where
    w : ℕ
    w = j.width

    hit : Bool
    hit = (n % w == p) && nat_le (n / w) s

    missed : hit ≡ false → ((t : ℕ) → t ≤ s → t * w + p ≢ n) → cond hit (f n) (latest f w n p s) ≡ latest f w (n + 1) p s
    missed is apart = cond-false hit (f n) (latest f w n p s) is ∙ sym (latest_apart f w n p s apart)

    other_net : (n % w ≡ p → ⊥) → cond hit (f n) (latest f w n p s) ≡ latest f w (n + 1) p s
    other_net other = missed (and_left (n % w == p) (nat_le (n / w) s) (ne_eqb (n % w) p other)) (λ t few same. other (sym (ap (λ k. k % w) same) ∙ mod-mul-add t w p low))

    of_net : n % w ≡ p → cond hit (f n) (latest f w n p s) ≡ latest f w (n + 1) p s
    of_net same = ⊎_elim (λ later. before later) (λ few. seen few) (cases_lt s (n / w))
      where
        before : s < n / w → cond hit (f n) (latest f w n p s) ≡ latest f w (n + 1) p s
        before later = missed (and_right (n % w == p) (nat_le (n / w) s) (lt-leb (n / w) s later)) (λ t few at. absurd (let row : n / w ≡ t = sym (ap (λ k. k / w) at) ∙ div-mul-add t w p low in omega (arith, row, few, later)))

        seen : n / w ≤ s → cond hit (f n) (latest f w n p s) ≡ latest f w (n + 1) p s
        seen few =
            let at : n / w * w + p ≡ n = rw (sym same) (whole j n some) in
            cond-true hit (f n) (latest f w n p s) (and_from (n % w == p) (nat_le (n / w) s) (eq-eqb (n % w) p same) (le-leb (n / w) s few))
            ∙ sym (latest_new f w n p (n / w) s some at few)

-- The changes of the first places force each net as its last place among them says.
said : (j : Job) → Fits j → (f : ℕ → Option Value) (n : ℕ) → n ≤ places_of j → (s p : ℕ) → p < j.width → forced_at (changes j f n) s (slice_index j.order p) ≡ latest f j.width n p s
unfolding changes
said j fits f zero few s p low = sym (latest_none f j.width p s)
said j fits f (suc n) few s p low =
    let within : n < places_of j = omega (arith, few) in
    let net = slice_index j.order p in
    let some = some_width j.width (j.moments * j.rounds) n within in
    let earlier = said j fits f n (omega (arith, few)) s p low in
    with_change j (changes j f n) (forced_before j f n) (f n) n s net (λ hit. earlier ∙ known some (rw (hits j fits n s p (f n) within low) at hit))
    ∙ ap (λ b. cond b (f n) (forced_at (changes j f n) s net)) (hits j fits n s p (f n) within low)
    ∙ ap (λ was. cond ((n % j.width == p) && nat_le (n / j.width) s) (f n) was) earlier
    ∙ one_seen j f n p s some low
    ∙ ap (λ k. latest f j.width k p s) (add-one n)
  where
    known : 0 < j.width → ((n % j.width == p) && nat_le (n / j.width) s) ≡ true → latest f j.width n p s ≡ forced_before j f n
    known some hit =
        let parts = both (n % j.width) p (n / j.width) s hit in
        latest_old j f n p (n / j.width) s low (rw (sym parts.0) (whole j n some)) parts.1
      where
        both : (a b c d : ℕ) → ((a == b) && nat_le c d) ≡ true → (a ≡ b) × (c ≤ d)
        both a b c d is = grind (arith, common_steps)

-- The changes of a forcing force each place as it says.
pub changes_force : (j : Job) → Fits j → (f : ℕ → Option Value) (place : ℕ) → place < places_of j → forced_by j (changes j f (places_of j)) place ≡ f place
changes_force j fits f place within =
    let some = some_width j.width (j.moments * j.rounds) place within in
    let at = whole j place some in
    said j fits f (places_of j) (omega arith) (step_of j place) (place % j.width) (mod-lt place some)
    ∙ latest_top f j.width (places_of j) (place % j.width) (step_of j place) (omega (arith, at, within)) ∙ ap f at

-- An event of the job whose place is below a number.
record IsBelow (j : Job) (n : ℕ) (event : Event) : Type 0 where
  place : IsPlace j (place_of event)
  below : number_of j (place_of event) < n

are_below : (j : Job) → Fits j → (f : ℕ → Option Value) (n : ℕ) → n ≤ places_of j → AllByRecursion (IsBelow j n) (changes j f n)
unfolding changes
are_below j fits f zero few = tt
are_below j fits f (suc n) few =
    let within : n < places_of j = omega (arith, few) in
    let earlier : AllByRecursion (IsBelow j (suc n)) (changes j f n) = all_from (IsBelow j n) (IsBelow j (suc n)) (changes j f n) (λ e is. record { place = is.place; below = (let low = is.below in omega (arith, low)) }) (are_below j fits f n (omega (arith, few))) in
    let here : IsBelow j (suc n) (event_of j n (f n)) = record { place = is_place_at j n fits.ordering fits.all within; below = (let at = number_of_place_at j n fits.ordering fits.all within in omega (arith, at)) } in
    unless_all (IsBelow j (suc n)) (changes j f n) (forced_before j f n) (f n) (event_of j n (f n)) earlier here
  where
    unless_all : (P : Event → Type 0) (events : List Event) (was force : Option Value) (e : Event) → AllByRecursion P events → P e → AllByRecursion P (events ++ unless_same was force e)
    unless_all P events was force e all here = ⊎_elim (λ same. subst (AllByRecursion P) (sym (ap (λ es. events ++ es) (cond-true (is_same_force was force) [] (e ∷ []) same) ∙ append-nil events)) all) (λ other. subst (AllByRecursion P) (sym (ap (λ es. events ++ es) (cond-false (is_same_force was force) [] (e ∷ []) other))) (all_push P events e all here)) (cases_Bool (is_same_force was force))

numbers : Job → List Event → List ℕ
numbers j events = map (λ event. number_of j (place_of event)) events

ascend : (j : Job) → Fits j → (f : ℕ → Option Value) (n : ℕ) → n ≤ places_of j → IsStrictlyIncreasing (map (λ event. number_of j (place_of event)) (changes j f n))
unfolding changes
ascend j fits f zero few = λ k within. absurd (omega arith)
ascend j fits f (suc n) few =
    let within : n < places_of j = omega (arith, few) in
    let at = number_of_place_at j n fits.ordering fits.all within in
    let below : AllByRecursion (λ e. number_of j (place_of e) < number_of j (place_at j n)) (changes j f n) = all_from (IsBelow j n) _ (changes j f n) (λ e is. (let low = is.below in omega (arith, low, at))) (are_below j fits f n (omega (arith, few))) in
    unless_rises (changes j f n) (forced_before j f n) (f n) (event_of j n (f n)) (ascend j fits f n (omega (arith, few))) below
  where
    number : Event → ℕ
    number event = number_of j (place_of event)

    unless_rises : (events : List Event) (was force : Option Value) (e : Event) → IsStrictlyIncreasing (map number events) → AllByRecursion (λ x. number x < number e) events → IsStrictlyIncreasing (map number (events ++ unless_same was force e))
    unless_rises events was force e rises below = ⊎_elim (λ same. subst (λ es. IsStrictlyIncreasing (map number es)) (sym (ap (λ es. events ++ es) (cond-true (is_same_force was force) [] (e ∷ []) same) ∙ append-nil events)) rises) (λ other. subst (λ es. IsStrictlyIncreasing (map number es)) (sym (ap (λ es. events ++ es) (cond-false (is_same_force was force) [] (e ∷ []) other))) (subst IsStrictlyIncreasing (sym (map_push number events e)) (increasing_push (map number events) (number e) rises (all_map number (λ y. y < number e) events below)))) (cases_Bool (is_same_force was force))

-- They are events of the job.
pub are_events : (j : Job) → Fits j → (f : ℕ → Option Value) → AreEvents j (changes j f (places_of j))
are_events j fits f = record {
  places = all_from (IsBelow j (places_of j)) (λ e. IsPlace j (place_of e)) (changes j f (places_of j)) (λ e is. is.place) (are_below j fits f (places_of j) (omega arith));
  ascending = ascend j fits f (places_of j) (omega arith);
}

-- Forcings that agree have the same changes.
pub changes_agree : (j : Job) (f g : ℕ → Option Value) (n : ℕ) → ((k : ℕ) → k < n → f k ≡ g k) → changes j f n ≡ changes j g n
unfolding changes
changes_agree j f g zero agree = refl
changes_agree j f g (suc n) agree =
    let earlier = changes_agree j f g n (λ k less. agree k (omega (arith, less))) in
    rw (earlier, agree n (omega arith), same_before) refl
  where
    same_before : forced_before j f n ≡ forced_before j g n
    same_before = ⊎_elim (λ first. lower n j.width None (f (n - j.width)) first ∙ sym (lower n j.width None (g (n - j.width)) first)) (λ later. upper n j.width None (f (n - j.width)) later ∙ (agree (n - j.width) (omega arith) ∙ sym (upper n j.width None (g (n - j.width)) later))) (cases_lt n j.width)
