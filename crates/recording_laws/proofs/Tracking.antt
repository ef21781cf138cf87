-- The changes of a code are those that the text says, each at the time of its moment.
use Rattle.std.proofs.Common.{◌≡◌, ℕ, ◌-◌, ◌<◌, ◌≤◌, Bool, true, false, List, [], ◌∷◌, ◌++◌, length, map, Option, IfSome, refl, sym, ap, ◌∙◌, subst, arith, append_assoc, bytes_eq, inl, inr, ◌⊎◌, ⊎_elim, if◌then◌else◌, length-append}
use Rattle.std.specs.Prelude.{slice_index}
use Rattle.std.proofs.lemmas.Bool.{cases_lt}
use Rattle.std.proofs.lemmas.List.{append-nil, get_or-set_other, get_or-set_same, length-set, map-append}
use Rattle.std.proofs.lemmas.List.Elements.{All-push}
use Rattle.std.proofs.lemmas.Slice.Eq.{bytes_eq-Decides}
use Rattle.recording_reader.specs.Changes.{Body, changed, last_time, times_or, with_time}
use Rattle.recording_reader.proofs.Found.{found_within}
use Rattle.recording_changes.specs.Held.{Change, change, track_of, with_change}
use Rattle.recording_codes.specs.Code.{Code}
use Rattle.recording_codes.specs.declared.codes.Found.{Found}
use Rattle.recording_laws.specs.Body.{BodyItem}
use Rattle.recording_laws.specs.Moments.{changes_from}
use Rattle.recording_laws.proofs.Applying.{Applies}
use Rattle.recording_laws.proofs.Coding.{IsFoundAt, one_text}
use Rattle.recording_laws.proofs.Timing.{AreIn, AreTracks, are_in_more, fewer, last_of_push, last_or, next_moment, none_in, stamp, stamps_kept, times_or_pushed, times_or_some}

-- ---- one change more

-- A number that is found is that of a track.
found_low : (cs : List Code) (t : List ℕ) (n tracks : ℕ) → tracks ≡ length cs → IsFoundAt cs t n → n < tracks
found_low cs t n tracks same f = (let low : f.found_.number < tracks = subst (λ (o : Option Found). IfSome o (λ (c : Found). c.number < tracks)) f.is (found_within cs t tracks same) in let at = f.at in omega (arith, low, at))

one_number : (cs : List Code) (t : List ℕ) (m n : ℕ) → IsFoundAt cs t m → IsFoundAt cs t n → m ≡ n
one_number cs t m n a b =
    let same : a.found_ ≡ b.found_ = (let e = sym a.is ∙ b.is in cc) in
    sym a.at ∙ (ap (λ (f : Found). f.number) same ∙ b.at)

track_same : (tracks : List (List Change)) (n : ℕ) (c : Change) → n < length tracks → track_of (with_change tracks n c) n ≡ track_of tracks n ++ c ∷ []
track_same tracks n c low = get_or-set_same tracks n (track_of tracks n ++ c ∷ []) [] low

track_other : (tracks : List (List Change)) (m n : ℕ) (c : Change) → (n ≡ m → ⊥) → track_of (with_change tracks m c) n ≡ track_of tracks n
track_other tracks m n c other = get_or-set_other tracks m n (track_of tracks m ++ c ∷ []) [] other

-- ---- what stays

pub declared_kept : {b to : Body} {items : List BodyItem} → Applies b items to → to.declared ≡ b.declared
declared_kept Applies.none = refl
declared_kept (Applies.first empty rest) = declared_kept rest
declared_kept (Applies.same some is rest) = declared_kept rest
declared_kept (Applies.later some less rest) = declared_kept rest
declared_kept (Applies.change found rest) = declared_kept rest

timed : (b : Body) (time : ℕ) → AreTracks b → AreTracks (with_time b time)
timed b time are = record { known = are.known; within = λ n. are_in_more b.times (b.times ++ time ∷ []) (track_of b.tracks n) (omega (arith, length-append b.times (time ∷ []))) (are.within n) }

moved : (b : Body) (number : ℕ) (digits : List ℕ) → number < length b.tracks → AreTracks b → AreTracks (changed b number digits)
moved b number digits low are = record { known = length-set b.tracks number _ ∙ are.known; within = λ n. by n (cases_lt n number) }
  where
    c : Change
    c = change (length b.times - 1) digits

    more : (n : ℕ) → AreIn (times_or b.times) (track_of b.tracks n)
    more n = are_in_more b.times (times_or b.times) (track_of b.tracks n) (fewer b.times) (are.within n)

    other : (n : ℕ) → (n ≡ number → ⊥) → AreIn (times_or b.times) (track_of (with_change b.tracks number c) n)
    other n differ = subst (λ (l : List Change). AreIn (times_or b.times) l) (sym (track_other b.tracks number n c differ)) (more n)

    same : (n : ℕ) → n ≡ number → AreIn (times_or b.times) (track_of (with_change b.tracks number c) n)
    same n is = subst (λ (k : ℕ). AreIn (times_or b.times) (track_of (with_change b.tracks number c) k)) (sym is)
        (subst (λ (l : List Change). AreIn (times_or b.times) l) (sym (track_same b.tracks number c low))
        (All-push (λ (d : Change). d.moment < length (times_or b.times)) (track_of b.tracks number) c (more number) (next_moment b.times)))

    by : (n : ℕ) → (n < number) ⊎ (number ≤ n) → AreIn (times_or b.times) (track_of (with_change b.tracks number c) n)
    by n (inl less) = other n (λ is. omega (arith, is, less))
    by n (inr least) = ⊎_elim (λ (h : number < n). other n (λ is. omega (arith, is, h))) (λ (h : n ≤ number). same n (omega (arith, h, least))) (cases_lt number n)

pub tracks_kept : {b to : Body} {items : List BodyItem} → Applies b items to → AreTracks b → AreTracks to
tracks_kept Applies.none are = are
tracks_kept {b = b} (Applies.first {time = time} empty rest) are = tracks_kept rest (timed b time are)
tracks_kept (Applies.same some is rest) are = tracks_kept rest are
tracks_kept {b = b} (Applies.later {time = time} some less rest) are = tracks_kept rest (timed b time are)
tracks_kept {b = b} (Applies.change {code = code} {digits = digits} {number = number} found rest) are = tracks_kept rest (moved b number digits (found_low b.declared.codes code number (length b.tracks) are.known found) are)

-- ---- and what is said

or_twice : (times : List ℕ) → times_or (times_or times) ≡ times_or times
or_twice [] = refl
or_twice (t ∷ ts) = refl

stamp_next : (times : List ℕ) → slice_index (times_or times) (length times - 1) ≡ slice_index times (length times - 1)
stamp_next [] = refl
stamp_next (t ∷ ts) = refl

-- Whatever is said after these changes.
abbrev IsStamped : Body → ℕ → List Change → List Change → Type 0
IsStamped b n all rest = all ≡ map (stamp (times_or b.times)) (track_of b.tracks n) ++ rest

timed_stamps : (b : Body) (n time : ℕ) (all rest : List Change) → map (stamp (times_or (b.times ++ time ∷ []))) (track_of b.tracks n) ≡ map (stamp (times_or b.times)) (track_of b.tracks n) → IsStamped (with_time b time) n all rest → IsStamped b n all rest
timed_stamps b n time all rest same is = is ∙ ap (λ (l : List Change). l ++ rest) same

none_stamped : (b : Body) (n time : ℕ) → length b.times ≡ 0 → AreTracks b → map (stamp (times_or (b.times ++ time ∷ []))) (track_of b.tracks n) ≡ map (stamp (times_or b.times)) (track_of b.tracks n)
none_stamped b n time empty are =
    let none : track_of b.tracks n ≡ [] = none_in b.times (track_of b.tracks n) empty (are.within n) in
    ap (map (stamp (times_or (b.times ++ time ∷ [])))) none ∙ sym (ap (map (stamp (times_or b.times))) none)

some_stamped : (b : Body) (n time : ℕ) → 0 < length b.times → AreTracks b → map (stamp (times_or (b.times ++ time ∷ []))) (track_of b.tracks n) ≡ map (stamp (times_or b.times)) (track_of b.tracks n)
some_stamped b n time some are =
    ap (λ (l : List ℕ). map (stamp l) (track_of b.tracks n)) (times_or_pushed b.times time)
    ∙ (stamps_kept b.times (time ∷ []) (track_of b.tracks n) (are.within n) ∙ ap (λ (l : List ℕ). map (stamp l) (track_of b.tracks n)) (sym (times_or_some b.times some)))

-- a change of this code, or of another
changed_stamps : (b : Body) (n number : ℕ) (code other digits : List ℕ) (all rest : List Change) → AreTracks b → IsFoundAt b.declared.codes code n → IsFoundAt b.declared.codes other number → IsStamped (changed b number digits) n all rest → IsStamped b n all (if bytes_eq code other then change (last_time b) digits ∷ rest else rest)
changed_stamps b n number code other digits all rest are here there is = by (bytes_eq code other) refl
  where
    c : Change
    c = change (length b.times - 1) digits

    f : Change → Change
    f d = stamp (times_or b.times) d

    at : all ≡ map f (track_of (with_change b.tracks number c) n) ++ rest
    at = is ∙ ap (λ (l : List ℕ). map (stamp l) (track_of (with_change b.tracks number c) n) ++ rest) (or_twice b.times)

    by : (same : Bool) → bytes_eq code other ≡ same → IsStamped b n all (if same then change (last_time b) digits ∷ rest else rest)
    by true same =
        let texts : code ≡ other = (bytes_eq-Decides code other).0 same in
        let numbers : number ≡ n = one_number b.declared.codes code number n (subst (λ (t : List ℕ). IsFoundAt b.declared.codes t number) (sym texts) there) here in
        let low = found_low b.declared.codes code n (length b.tracks) are.known here in
        let track : track_of (with_change b.tracks number c) n ≡ track_of b.tracks n ++ c ∷ [] = ap (λ k. track_of (with_change b.tracks k c) n) numbers ∙ track_same b.tracks n c low in
        at
        ∙ (ap (λ (l : List Change). map f l ++ rest) track
        ∙ (ap (λ (l : List Change). l ++ rest) (map-append f (track_of b.tracks n) (c ∷ []))
        ∙ (append_assoc (map f (track_of b.tracks n)) (f c ∷ []) rest
        ∙ ap (λ t. map f (track_of b.tracks n) ++ change t digits ∷ rest) (stamp_next b.times))))
    by false differ =
        let apart : n ≡ number → ⊥ = λ numbers. (let texts : code ≡ other = one_text b.declared.codes code other n here (subst (λ (k : ℕ). IsFoundAt b.declared.codes other k) (sym numbers) there) in let same = (bytes_eq-Decides code other).1 texts in absurd (let both = sym differ ∙ same in cc)) in
        at ∙ ap (λ (l : List Change). map f l ++ rest) (track_other b.tracks number n c apart)

pub stamped : {b to : Body} {items : List BodyItem} (code : List ℕ) (n : ℕ) → Applies b items to → AreTracks b → IsFoundAt b.declared.codes code n → IsStamped b n (map (stamp (times_or to.times)) (track_of to.tracks n)) (changes_from (last_time b) code items)
stamped code n Applies.none are here = sym (append-nil _)
stamped {b = b} {to = to} code n (Applies.first {time = time} {items = items} empty rest) are here =
    let all = map (stamp (times_or to.times)) (track_of to.tracks n) in
    let is = stamped code n rest (timed b time are) here in
    timed_stamps b n time all (changes_from time code items) (none_stamped b n time empty are) (subst (λ (t : ℕ). IsStamped (with_time b time) n all (changes_from t code items)) (last_of_push b.times time) is)
stamped {b = b} {to = to} code n (Applies.same {time = time} {items = items} some last rest) are here =
    subst (λ (t : ℕ). IsStamped b n (map (stamp (times_or to.times)) (track_of to.tracks n)) (changes_from t code items)) (sym last) (stamped code n rest are here)
stamped {b = b} {to = to} code n (Applies.later {time = time} {items = items} some less rest) are here =
    let all = map (stamp (times_or to.times)) (track_of to.tracks n) in
    let is = stamped code n rest (timed b time are) here in
    timed_stamps b n time all (changes_from time code items) (some_stamped b n time some are) (subst (λ (t : ℕ). IsStamped (with_time b time) n all (changes_from t code items)) (last_of_push b.times time) is)
stamped {b = b} {to = to} code n (Applies.change {code = other} {digits = digits} {number = number} {items = items} there rest) are here =
    let all = map (stamp (times_or to.times)) (track_of to.tracks n) in
    let is = stamped code n rest (moved b number digits (found_low b.declared.codes other number (length b.tracks) are.known there) are) here in
    changed_stamps b n number code other digits all (changes_from (last_time b) code items) are here there
    (subst (λ (t : ℕ). IsStamped (changed b number digits) n all (changes_from t code items)) (last_or b.times) is)
