-- Rows of what each net has one step before, and the changes made with them.
use Rattle.std.proofs.Common.{◌≡◌, ◌≢◌, ℕ, zero, suc, ◌+◌, ◌-◌, ◌*◌, ◌/◌, ◌%◌, ◌<◌, ◌≤◌, Option, List, [], ◌∷◌, ◌++◌, length, set, slice_index_or, sym, ap, ◌∙◌, arith, subst, add-one, add-zero, append-nil, min, ⊎_elim, length-set, get_or-set_same, get_or-set_other, replicate, nat_lt}
use Rattle.std.proofs.lemmas.Bool.{cases_eq, cases_lt, cond-true, cond-false, lt-ltb, le-ltb}
use Rattle.std.proofs.lemmas.List.{get_or-replicate, length-replicate}
use Rattle.std.proofs.lemmas.Nat.{div-add-mod', mod-mul-add}
use Rattle.std.proofs.Math.Nat.{mod-lt, mul-le-mul_right}
use Rattle.design_cell.specs.declared.value.Value.{Value}
use Rattle.design_circuit.specs.Job.{Job}
use Rattle.design_circuit.specs.declared.force.Event.{Event}
use Rattle.replay_due.specs.Due.{NoneBetween}
use Rattle.replay_forces.specs.Changes.{change_at, changes, event_of, forced_before, is_same_force, one_before}
use Rattle.replay_forces.specs.Made.{IsMade, IsRow, Rests, RestUnlessDue}
use Rattle.replay_forces.proofs.Sameness.{force_same}

-- Before step 0, and later.
pub first_step : {A : Type 0} (j : Job) (early : A) (has : ℕ → A) (place : ℕ) → place < j.width → one_before j early has place ≡ early
first_step j early has place low = cond-true (nat_lt place j.width) early (has (place - j.width)) (lt-ltb place j.width low)

pub later_step : {A : Type 0} (j : Job) (early : A) (has : ℕ → A) (place : ℕ) → j.width ≤ place → one_before j early has place ≡ has (place - j.width)
later_step j early has place high = cond-false (nat_lt place j.width) early (has (place - j.width)) (le-ltb place j.width high)

row_after : (n w : ℕ) → 0 < w → (n + w) % w ≡ n % w
row_after n w some =
    let whole = div-add-mod' n w in
    let next : n + w ≡ (n / w + 1) * w + n % w = omega (arith, whole) in
    ap (λ k. k % w) next ∙ mod-mul-add (n / w + 1) w (n % w) (mod-lt n some)

-- Of fewer places than there are nets no two are of one net.
pub between : (n k w : ℕ) → n + 1 ≤ k → k < n + w → k % w ≡ n % w → ⊥
between n k w from below same = ⊎_elim (λ less. late less) (λ more. early more) (cases_lt (n / w) (k / w))
  where
    first : n / w * w + n % w ≡ n
    first = div-add-mod' n w

    second : k / w * w + k % w ≡ k
    second = div-add-mod' k w

    late : n / w < k / w → ⊥
    late less = let more : (n / w + 1) * w ≤ k / w * w = mul-le-mul_right w (omega (arith, less)) in omega (arith, first, second, more, same, below)

    early : k / w ≤ n / w → ⊥
    early more = let few : k / w * w ≤ n / w * w = mul-le-mul_right w more in omega (arith, first, second, few, same, from)

-- The first row has what each net has before step 0.
pub first_row : {A : Type 0} (j : Job) (early : A) (has : ℕ → A) → IsRow j early has 0 (replicate j.width early)
first_row j early has = record {
  long = length-replicate j.width early;
  before = λ place from below. (let low : place < j.width = omega (arith, below) in get_or-replicate j.width (place % j.width) early early (mod-lt place (omega (arith, low))) ∙ sym (first_step j early has place low));
}

-- A row has at the position of its place what the net has one step before.
pub row_at : {A : Type 0} (j : Job) (early : A) (has : ℕ → A) (n position : ℕ) (row : List A) → 0 < j.width → position ≡ n % j.width → IsRow j early has n row → slice_index_or row position early ≡ one_before j early has n
row_at j early has n position row some position_is is = ap (λ p. slice_index_or row p early) position_is ∙ is.before n (omega arith) (omega (arith, some))

-- One place more is in the row.
pub row_more : {A : Type 0} (j : Job) (early : A) (has : ℕ → A) (n position : ℕ) (row : List A) (here : A) → 0 < j.width → position ≡ n % j.width → here ≡ has n → IsRow j early has n row → IsRow j early has (n + 1) (set row position here)
row_more j early has n position row here some position_is here_is is = record {
  long = length-set row position here ∙ is.long;
  before = λ place from below. ⊎_elim (λ last. next place last) (λ other. kept place from below other) (cases_eq place (n + w));
}
  where
    w : ℕ
    w = j.width

    index : position < length row
    index = let low = mod-lt n some in let long = is.long in omega (arith, low, long, position_is)

    next : (place : ℕ) → place ≡ n + w → slice_index_or (set row position here) (place % w) early ≡ one_before j early has place
    next place last =
        let same : place % w ≡ position = ap (λ k. k % w) last ∙ (row_after n w some ∙ sym position_is) in
        let back : n ≡ place - w = omega (arith, last) in
        ap (λ k. slice_index_or (set row position here) k early) same ∙ (get_or-set_same row position here early index ∙ (here_is ∙ (ap has back ∙ sym (later_step j early has place (omega (arith, last))))))

    kept : (place : ℕ) → n + 1 ≤ place → place < n + 1 + w → (place ≡ n + w → ⊥) → slice_index_or (set row position here) (place % w) early ≡ one_before j early has place
    kept place from below other = get_or-set_other row position (place % w) here early apart ∙ is.before place (omega (arith, from)) less
      where
        less : place < n + w
        less = ⊎_elim (λ low. low) (λ high. absurd (other (omega (arith, high, below)))) (cases_lt place (n + w))

        apart : place % w ≢ position
        apart same = between n place w from less (same ∙ position_is)

-- A place that has what its net has one step before leaves the row as it is.
row_rests : {A : Type 0} (j : Job) (early : A) (has : ℕ → A) (n : ℕ) (row : List A) → 0 < j.width → has n ≡ one_before j early has n → IsRow j early has n row → IsRow j early has (n + 1) row
row_rests j early has n row some same is = record {
  long = is.long;
  before = λ place from below. ⊎_elim (λ last. next place last) (λ other. is.before place (omega (arith, from)) (omega (arith, below, other))) (cases_eq place (n + j.width));
}
  where
    next : (place : ℕ) → place ≡ n + j.width → slice_index_or row (place % j.width) early ≡ one_before j early has place
    next place last =
        let back : n ≡ place - j.width = omega (arith, last) in
        ap (λ k. slice_index_or row k early) (ap (λ k. k % j.width) last ∙ row_after n j.width some)
        ∙ (is.before n (omega arith) (omega (arith, some)) ∙ (sym same ∙ (ap has back ∙ sym (later_step j early has place (omega (arith, last))))))

-- Nothing is made yet.
pub none_made : {A : Type 0} (j : Job) (early : A) (has : ℕ → A) (forced : ℕ → Option Value) (events : List Event) → events ≡ [] → IsMade j early has forced 0 (replicate j.width early) events
unfolding changes
none_made j early has forced events none = record { row = first_row j early has; events = none }

-- One place more is made.
pub made_more : {A : Type 0} (j : Job) (early : A) (has : ℕ → A) (forced : ℕ → Option Value) (n position : ℕ) (row : List A) (here : A) (old new : List Event) → 0 < j.width → position ≡ n % j.width → here ≡ has n → new ≡ old ++ change_at j forced n → IsMade j early has forced n row old → IsMade j early has forced (n + 1) (set row position here) new
unfolding changes
made_more j early has forced n position row here old new some position_is here_is new_is made = record {
  row = row_more j early has n position row here some position_is here_is made.row;
  events = new_is ∙ (ap (λ es. es ++ change_at j forced n) made.events ∙ ap (changes j forced) (sym (add-one n)));
}

-- One that rests is made as it is.
made_rests : {A : Type 0} (j : Job) (early : A) (has : ℕ → A) (forced : ℕ → Option Value) (n : ℕ) (row : List A) (events : List Event) → 0 < j.width → Rests j early has forced n → IsMade j early has forced n row events → IsMade j early has forced (n + 1) row events
unfolding changes
made_rests j early has forced n row events some rests made = record {
  row = row_rests j early has n row some rests.same made.row;
  events = made.events ∙ (sym (append-nil (changes j forced n)) ∙ (ap (λ es. changes j forced n ++ es) (sym none) ∙ ap (changes j forced) (sym (add-one n))));
}
  where
    none : change_at j forced n ≡ []
    none = rw rests.forces (cond-true (is_same_force (forced_before j forced n) (forced_before j forced n)) [] (event_of j n (forced_before j forced n) ∷ []) (force_same (forced_before j forced n)))

made_by : {A : Type 0} (j : Job) (early : A) (has : ℕ → A) (forced : ℕ → Option Value) (n more : ℕ) (row : List A) (events : List Event) → 0 < j.width → ((k : ℕ) → n ≤ k → k < n + more → Rests j early has forced k) → IsMade j early has forced n row events → IsMade j early has forced (n + more) row events
made_by j early has forced n zero row events some rests made = rw add-zero made
made_by {A} j early has forced n (suc more) row events some rests made =
    let e : n + suc more ≡ n + more + 1 = omega arith in
    let P : ℕ → Type 0 = λ k. IsMade j early has forced k row events in
    subst P (sym e) (made_rests j early has forced (n + more) row events some (rests (n + more) (omega arith) (omega arith)) (made_by j early has forced n more row events some (λ k low high. rests k low (omega (arith, high))) made))

-- So are all up to the next one that is due, or to the end of the step.
pub made_to : {A : Type 0} (j : Job) (early : A) (has : ℕ → A) (forced : ℕ → Option Value) (step from to : ℕ) (due : List ℕ) (row : List A) (events : List Event) → from ≤ j.width → from ≤ to → NoneBetween due from to → RestUnlessDue j early has forced step due → IsMade j early has forced (step * j.width + from) row events → IsMade j early has forced (step * j.width + min to j.width) row events
made_to j early has forced step from to due row events within forward none rests made = ⊎_elim (λ some. go some) (λ empty. stay (omega (arith, empty))) (cases_lt 0 j.width)
  where
    P : ℕ → Type 0
    P n = IsMade j early has forced n row events

    go : 0 < j.width → P (step * j.width + min to j.width)
    go some =
        let e : step * j.width + from + (min to j.width - from) ≡ step * j.width + min to j.width = omega (arith, within, forward) in
        subst P e (made_by j early has forced (step * j.width + from) (min to j.width - from) row events some each made)
      where
        each : (k : ℕ) → step * j.width + from ≤ k → k < step * j.width + from + (min to j.width - from) → Rests j early has forced k
        each k low high =
            let p : ℕ = k - step * j.width in
            let e : step * j.width + p ≡ k = omega (arith, low) in
            let Q : ℕ → Type 0 = λ n. Rests j early has forced n in
            subst Q e (rests p (omega (arith, low, high, within, forward)) (none p (omega (arith, low)) (omega (arith, low, high, within, forward))))

    stay : j.width ≡ 0 → P (step * j.width + min to j.width)
    stay empty = let e : step * j.width + from ≡ step * j.width + min to j.width = omega (arith, within, empty) in subst P e made
