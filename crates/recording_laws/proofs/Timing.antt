-- The times of moments, and when each change comes, as items are applied.
use Rattle.std.proofs.Common.{◌≡◌, ℕ, suc, ◌+◌, ◌-◌, ◌<◌, ◌≤◌, ◌↔◌, List, [], ◌∷◌, ◌++◌, length, map, All, refl, sym, ◌∙◌, subst, arith, get_or, inl, inr, ◌⊎◌, ⊎_elim, length-append}
use Rattle.std.specs.List.{Contains}
use Rattle.std.specs.List.Sorted.{IsStrictlyIncreasing}
use Rattle.std.specs.Prelude.{slice_index}
use Rattle.std.proofs.lemmas.Bool.{cases_lt}
use Rattle.std.proofs.lemmas.Grind.{get_or_default_zero}
use Rattle.std.proofs.lemmas.List.Elements.{Contains-append_cases, Contains-append_left, Contains-append_right}
use Rattle.std.proofs.Math.ListN.{get_or-append}
use Rattle.std.proofs.Math.Seq.{get_or-append_seam}
use Rattle.recording_reader.specs.Changes.{Body, changed, last_time, times_or, with_time}
use Rattle.recording_changes.specs.Held.{Change, change, track_of}
use Rattle.recording_laws.specs.Body.{BodyItem}
use Rattle.recording_laws.specs.Body.BodyItem.{at, takes}
use Rattle.recording_laws.specs.Moments.{times_in}
use Rattle.recording_laws.proofs.Applying.{Applies}

-- ---- times ascend

pub increasing_push : (xs : List ℕ) (x : ℕ) → IsStrictlyIncreasing xs → (0 < length xs → slice_index xs (length xs - 1) < x) → IsStrictlyIncreasing (xs ++ x ∷ [])
increasing_push xs x up last k within = ⊎_elim inner outer (cases_lt (k + 1) (length xs))
  where
    long : length (xs ++ x ∷ []) ≡ length xs + 1
    long = length-append xs (x ∷ [])

    inner : k + 1 < length xs → get_or (xs ++ x ∷ []) k 0 < get_or (xs ++ x ∷ []) (k + 1) 0
    inner less =
        let a = get_or-append xs (x ∷ []) 0 k (omega (arith, less)) in
        let b = get_or-append xs (x ∷ []) 0 (k + 1) less in
        let c : get_or xs k 0 < get_or xs (k + 1) 0 = up k less in
        rw (a, b) c

    outer : length xs ≤ k + 1 → get_or (xs ++ x ∷ []) k 0 < get_or (xs ++ x ∷ []) (k + 1) 0
    outer more =
        let here : k + 1 ≡ length xs = omega (arith, more, within, long) in
        let before : k ≡ length xs - 1 = omega (arith, here) in
        let a = get_or-append xs (x ∷ []) 0 k (omega (arith, here)) in
        let b : get_or (xs ++ x ∷ []) (length xs) 0 ≡ x = get_or-append_seam xs x [] 0 in
        let c : get_or xs (length xs - 1) 0 < x = last (omega (arith, here)) in
        rw (a, here, b) (subst (λ n. get_or xs n 0 < x) (sym before) c)

-- ---- the last time

pub last_of_push : (xs : List ℕ) (x : ℕ) → slice_index (xs ++ x ∷ []) (length (xs ++ x ∷ []) - 1) ≡ x
last_of_push xs x =
    let last : length (xs ++ x ∷ []) - 1 ≡ length xs = omega (arith, length-append xs (x ∷ [])) in
    rw last (get_or-append_seam xs x [] 0)

pub last_or : (times : List ℕ) → slice_index (times_or times) (length (times_or times) - 1) ≡ slice_index times (length times - 1)
last_or [] = refl
last_or (t ∷ ts) = refl

pub times_or_some : (times : List ℕ) → 0 < length times → times_or times ≡ times
times_or_some [] some = absurd (omega (arith, some))
times_or_some (t ∷ ts) some = refl

pub times_or_pushed : (times : List ℕ) (time : ℕ) → times_or (times ++ time ∷ []) ≡ times ++ time ∷ []
times_or_pushed [] time = refl
times_or_pushed (t ∷ ts) time = refl

-- the moment of a change that comes next
pub next_moment : (times : List ℕ) → length times - 1 < length (times_or times)
next_moment [] = omega arith
next_moment (t ∷ ts) = omega arith

pub fewer : (times : List ℕ) → length times ≤ length (times_or times)
fewer [] = omega arith
fewer (t ∷ ts) = omega arith

pub up_or : (times : List ℕ) → IsStrictlyIncreasing times → IsStrictlyIncreasing (times_or times)
up_or [] up = λ k within. absurd (omega (arith, within))
up_or (t ∷ ts) up = up

-- ---- the times that are said

pub record HasTimes (b to : Body) (items : List BodyItem) : Type 0 where
  pub ascending : IsStrictlyIncreasing to.times
  pub some : 0 < length to.times
  pub each : (time : ℕ) → Contains to.times time ↔ (Contains b.times time ⊎ Contains (times_in items) time)

no_element : (x : ℕ) → (let xs : List ℕ = [] in Contains xs x) → ⊥
no_element x has = omega (arith, has.1)

-- a time more
grown : (b to : Body) (time : ℕ) (items : List BodyItem) → HasTimes (with_time b time) to items → HasTimes b to (at time ∷ items)
grown b to time items t = record {
  ascending = t.ascending;
  some = t.some;
  each = λ x. (λ has. forth x ((t.each x).0 has), λ has. (t.each x).1 (over x has));
}
  where
    forth : (x : ℕ) → Contains (b.times ++ time ∷ []) x ⊎ Contains (times_in items) x → Contains b.times x ⊎ Contains (time ∷ times_in items) x
    forth x (inl has) = ⊎_elim (λ h. inl h) (λ h. inr (Contains-append_left (time ∷ []) (times_in items) x h)) (Contains-append_cases b.times (time ∷ []) x has)
    forth x (inr has) = inr (Contains-append_right (time ∷ []) (times_in items) x has)

    over : (x : ℕ) → Contains b.times x ⊎ Contains (time ∷ times_in items) x → Contains (b.times ++ time ∷ []) x ⊎ Contains (times_in items) x
    over x (inl has) = inl (Contains-append_left b.times (time ∷ []) x has)
    over x (inr has) = ⊎_elim (λ h. inl (Contains-append_right b.times (time ∷ []) x h)) (λ h. inr h) (Contains-append_cases (time ∷ []) (times_in items) x has)

-- the last time again
again : (b to : Body) (time : ℕ) (items : List BodyItem) → 0 < length b.times → time ≡ last_time b → HasTimes b to items → HasTimes b to (at time ∷ items)
again b to time items some is t = record {
  ascending = t.ascending;
  some = t.some;
  each = λ x. (λ has. forth x ((t.each x).0 has), λ has. (t.each x).1 (over x has));
}
  where
    there : (x : ℕ) → Contains (time ∷ []) x → Contains b.times x
    there x has =
        let none : has.0 ≡ 0 = (let low = has.1 in omega (arith, low)) in
        let same : time ≡ x = subst (λ (n : ℕ). get_or (time ∷ []) n x ≡ x) none has.2 in
        (length b.times - 1, omega (arith, some), last_is x (sym is ∙ same))
      where
        last_is : (x : ℕ) → get_or b.times (length b.times - 1) 0 ≡ x → get_or b.times (length b.times - 1) x ≡ x
        last_is x e = get_or_default_zero b.times (length b.times - 1) x (omega (arith, some)) ∙ e

    forth : (x : ℕ) → Contains b.times x ⊎ Contains (times_in items) x → Contains b.times x ⊎ Contains (time ∷ times_in items) x
    forth x (inl has) = inl has
    forth x (inr has) = inr (Contains-append_right (time ∷ []) (times_in items) x has)

    over : (x : ℕ) → Contains b.times x ⊎ Contains (time ∷ times_in items) x → Contains b.times x ⊎ Contains (times_in items) x
    over x (inl has) = inl has
    over x (inr has) = ⊎_elim (λ h. inl (there x h)) (λ h. inr h) (Contains-append_cases (time ∷ []) (times_in items) x has)

-- a change
kept_times : (b to : Body) (code digits : List ℕ) (number : ℕ) (items : List BodyItem) → 0 < length b.times → HasTimes (changed b number digits) to items → HasTimes b to (takes code digits ∷ items)
kept_times b to code digits number items some t = record {
  ascending = t.ascending;
  some = t.some;
  each = subst (λ (l : List ℕ). (time : ℕ) → Contains to.times time ↔ (Contains l time ⊎ Contains (times_in items) time)) (times_or_some b.times some) t.each;
}

pub has_times : {b to : Body} {items : List BodyItem} → Applies b items to → IsStrictlyIncreasing b.times → 0 < length b.times → HasTimes b to items
has_times Applies.none up some = record {
  ascending = up;
  some = some;
  each = λ x. (λ has. inl has, λ has. ⊎_elim (λ h. h) (λ h. absurd (no_element x h)) has);
}
has_times (Applies.first none rest) up some = absurd (omega (arith, none, some))
has_times {b = b} {to = to} (Applies.same {time = time} {items = items} more is rest) up some = again b to time items some is (has_times rest up some)
has_times {b = b} {to = to} (Applies.later {time = time} {items = items} more less rest) up some =
    grown b to time items (has_times rest (increasing_push b.times time up (λ h. less)) (omega (arith, length-append b.times (time ∷ []))))
has_times {b = b} {to = to} (Applies.change {code = code} {digits = digits} {number = number} {items = items} found rest) up some =
    kept_times b to code digits number items some (has_times rest (up_or b.times up) (let more = fewer b.times in omega (arith, more, some)))

-- ---- the changes of a code

-- a change at the time of its moment
abbrev pub stamp : List ℕ → Change → Change
stamp times c = change (slice_index times c.moment) c.digits

-- Changes come in moments that there are.
abbrev pub AreIn : List ℕ → List Change → Type 0
AreIn times cs = All (λ (c : Change). c.moment < length times) cs

-- They stay at their times when times are added.
pub stamps_kept : (times more : List ℕ) (cs : List Change) → AreIn times cs → map (stamp (times ++ more)) cs ≡ map (stamp times) cs
stamps_kept times more [] are = refl
stamps_kept times more (c ∷ cs) are =
    let here : slice_index (times ++ more) c.moment ≡ slice_index times c.moment = get_or-append times more 0 c.moment (are 0 c (omega arith)) in
    let rest = stamps_kept times more cs (λ k d lt. are (suc k) d (omega (arith, lt))) in
    rw (here, rest) refl

-- With no time there is no change.
pub none_in : (times : List ℕ) (cs : List Change) → length times ≡ 0 → AreIn times cs → cs ≡ []
none_in times [] none are = refl
none_in times (c ∷ cs) none are = (let low : c.moment < length times = are 0 c (omega arith) in absurd (omega (arith, low, none)))

pub are_in_more : (times more : List ℕ) (cs : List Change) → length times ≤ length more → AreIn times cs → AreIn more cs
are_in_more times more cs le are = λ k d lt. (let low = are k d lt in omega (arith, low, le))

-- The tracks are those of the codes, with changes in moments that there are.
pub record AreTracks (b : Body) : Type 0 where
  pub known : length b.tracks ≡ length b.declared.codes
  pub within : (n : ℕ) → AreIn b.times (track_of b.tracks n)
