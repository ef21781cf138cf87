-- A recording that a text says has what the text says of times and values.
use Rattle.std.proofs.Common.{◌≡◌, ℕ, zero, suc, ◌<◌, ◌≤◌, List, [], ◌∷◌, ◌++◌, length, map, replicate, All, refl, sym, ap, ◌∙◌, subst, arith, get_or, inl, inr, ◌⊎◌, ⊎_elim}
use Rattle.std.specs.List.{Contains}
use Rattle.std.specs.List.Sorted.{IsStrictlyIncreasing}
use Rattle.std.specs.Prelude.{slice_get, slice_index}
use Rattle.std.proofs.lemmas.Bool.{cases_lt}
use Rattle.std.proofs.lemmas.List.{get_or-map, get_or-replicate, get_or_past, length-map, length-replicate}
use Rattle.std.proofs.lemmas.List.Elements.{Contains-append_cases, Contains-append_left, Contains-append_right}
use Rattle.recording_reader.specs.Changes.{Body, changed, recording_of, start, times_or, with_time}
use Rattle.recording_reader.specs.Declarations.{Declarations, nothing}
use Rattle.recording_reader.specs.Recording.{Recording, width_of}
use Rattle.recording_reader.specs.Words.{words_of}
use Rattle.recording_reader.specs.declared.variable.Variable.{Variable}
use Rattle.recording_changes.specs.Held.{Change, bit_value, track_of}
use Rattle.recording_changes.specs.Last.{IsLastValue}
use Rattle.recording_codes.specs.Code.{Code}
use Rattle.recording_laws.specs.Body.{BodyItem}
use Rattle.recording_laws.specs.Codes.{CodedVariable}
use Rattle.recording_laws.specs.Laws.{RecordingsAreSaid}
use Rattle.recording_laws.specs.Moments.{AreMoments, IsSaid, changes_by_time, coded_at, times_in, times_said}
use Rattle.recording_laws.proofs.Applying.{Applies}
use Rattle.recording_laws.proofs.Coding.{IsFoundAt}
use Rattle.recording_laws.proofs.Declaring.{Goes, declared}
use Rattle.recording_laws.proofs.Itemed.{HasItems, has_items}
use Rattle.recording_laws.proofs.Tied.{Numbered, coded_width, width_in}
use Rattle.recording_laws.proofs.Timing.{AreTracks, HasTimes, are_in_more, fewer, has_times, stamp, times_or_some}
use Rattle.recording_laws.proofs.Tracking.{declared_kept, stamped, tracks_kept}
use Rattle.recording_laws.proofs.Values.{value_at_time}

-- ---- moments

-- The first time, and those after it.
begun : (to : Body) (first : ℕ) (items : List BodyItem) (b : Body) → b.times ≡ first ∷ [] → HasTimes b to items → AreMoments (first ∷ times_in items) (times_or to.times)
begun to first items b is t = subst (λ (l : List ℕ). AreMoments (first ∷ times_in items) l) (sym (times_or_some to.times t.some)) record {
  ascending = t.ascending;
  each = λ x. (λ has. forth x ((t.each x).0 has), λ has. (t.each x).1 (over x has));
}
  where
    forth : (x : ℕ) → Contains b.times x ⊎ Contains (times_in items) x → Contains (first ∷ times_in items) x
    forth x (inl has) = Contains-append_left (first ∷ []) (times_in items) x (subst (λ (l : List ℕ). Contains l x) is has)
    forth x (inr has) = Contains-append_right (first ∷ []) (times_in items) x has

    over : (x : ℕ) → Contains (first ∷ times_in items) x → Contains b.times x ⊎ Contains (times_in items) x
    over x has = ⊎_elim (λ h. inl (subst (λ (l : List ℕ). Contains l x) (sym is) h)) (λ h. inr h) (Contains-append_cases (first ∷ []) (times_in items) x has)

one_increases : (times : List ℕ) (x : ℕ) → times ≡ x ∷ [] → IsStrictlyIncreasing times
one_increases times x is = λ k within. (let one : length times ≡ 1 = ap (λ (l : List ℕ). length l) is in absurd (omega (arith, within, one)))

one_long : (times : List ℕ) (x : ℕ) → times ≡ x ∷ [] → 0 < length times
one_long times x is = (let one : length times ≡ 1 = ap (λ (l : List ℕ). length l) is in omega (arith, one))

moments_said : {b to : Body} {items : List BodyItem} → b.times ≡ [] → Applies b items to → AreMoments (times_said items) (times_or to.times)
moments_said {b = b} empty Applies.none = subst (λ (l : List ℕ). AreMoments (0 ∷ []) l) (sym (ap times_or empty)) record {
  ascending = one_increases (0 ∷ []) 0 refl;
  each = λ x. (λ has. has, λ has. has);
}
moments_said {b = b} {to = to} empty (Applies.first {time = time} {items = items} none rest) =
    let is : b.times ++ time ∷ [] ≡ time ∷ [] = ap (λ (l : List ℕ). l ++ time ∷ []) empty in
    begun to time items (with_time b time) is (has_times rest (one_increases (b.times ++ time ∷ []) time is) (one_long (b.times ++ time ∷ []) time is))
moments_said {b = b} empty (Applies.same some is rest) = (let none : length b.times ≡ 0 = ap (λ (l : List ℕ). length l) empty in absurd (omega (arith, some, none)))
moments_said {b = b} empty (Applies.later some less rest) = (let none : length b.times ≡ 0 = ap (λ (l : List ℕ). length l) empty in absurd (omega (arith, some, none)))
moments_said {b = b} {to = to} empty (Applies.change {code = code} {digits = digits} {number = number} {items = items} found rest) =
    let is : times_or b.times ≡ 0 ∷ [] = ap times_or empty in
    begun to 0 items (changed b number digits) is (has_times rest (one_increases (times_or b.times) 0 is) (one_long (times_or b.times) 0 is))

-- ---- variables

record IsAt (cs : List Code) (vs : List CodedVariable) (ns : List ℕ) (k : ℕ) : Type 0 where
  low : k < length ns
  found : IsFoundAt cs (coded_at vs k).code (slice_index ns k)

at_number : (cs : List Code) (vs : List CodedVariable) (ns : List ℕ) (k : ℕ) → Numbered cs vs ns → k < length vs → IsAt cs vs ns k
at_number cs [] ns k is low = absurd (omega (arith, low))
at_number cs (v ∷ vs) [] k is low = absurd is
at_number cs (v ∷ vs) (n ∷ ns) zero is low = record { low = omega arith; found = is.0 }
at_number cs (v ∷ vs) (n ∷ ns) (suc k) is low = (let a = at_number cs vs ns k is.1 (omega (arith, low)) in record { low = (let l = a.low in omega (arith, l)); found = a.found })

same_width : (variables : List Variable) (vs : List CodedVariable) (k : ℕ) → map width_in variables ≡ map coded_width vs → k < length vs → width_of (slice_get variables k) ≡ (coded_at vs k).width
same_width variables [] k is low = absurd (omega (arith, low))
same_width [] (v ∷ vs) k is low = absurd cc
same_width (w ∷ ws) (v ∷ vs) zero is low = cc
same_width (w ∷ ws) (v ∷ vs) (suc k) is low = same_width ws vs k (let tails : map width_in ws ≡ map coded_width vs = cc in tails) (omega (arith, low))

as_many : (variables : List Variable) (vs : List CodedVariable) → map width_in variables ≡ map coded_width vs → length variables ≡ length vs
as_many variables vs is = sym (length-map variables width_in) ∙ (ap (λ (l : List ℕ). length l) is ∙ length-map vs coded_width)

-- ---- the recording

-- At first there is no change.
abbrev unchanged : List Change
unchanged = []

no_track : (h : Declarations) (n : ℕ) → track_of (start h).tracks n ≡ []
no_track h n = ⊎_elim here past (cases_lt n (length h.codes))
  where
    long : length (replicate (length h.codes) unchanged) ≡ length h.codes
    long = length-replicate (length h.codes) unchanged

    here : n < length h.codes → track_of (replicate (length h.codes) unchanged) n ≡ unchanged
    here low = get_or-replicate (length h.codes) n unchanged unchanged low

    past : length h.codes ≤ n → track_of (replicate (length h.codes) unchanged) n ≡ unchanged
    past high = get_or_past (replicate (length h.codes) unchanged) n unchanged (omega (arith, high, long))

starts : (h : Declarations) → AreTracks (start h)
starts h = record { known = length-replicate (length h.codes) []; within = λ n. subst (λ (l : List Change). All (λ (c : Change). c.moment < 0) l) (sym (no_track h n)) (λ k d lt. absurd (omega (arith, lt))) }

module _ (h : Declarations) (vs : List CodedVariable) (items : List BodyItem) (to : Body) (applies : Applies (start h) items to) (numbered : Numbered h.codes vs h.numbers) where
  r : Recording
  r = recording_of to

  said_there : (n : ℕ) (code : List ℕ) → IsFoundAt h.codes code n → changes_by_time code items ≡ map (stamp (times_or to.times)) (track_of to.tracks n)
  said_there n code found =
      sym (stamped code n applies (starts h) found ∙ ap (λ (l : List Change). map (stamp (0 ∷ [])) l ++ changes_by_time code items) (no_track h n))

  within : (n : ℕ) → All (λ (c : Change). c.moment < length (times_or to.times)) (track_of to.tracks n)
  within n = are_in_more to.times (times_or to.times) (track_of to.tracks n) (fewer to.times) ((tracks_kept applies (starts h)).within n)

  numbers : to.declared.numbers ≡ h.numbers
  numbers = ap (λ (d : Declarations). d.numbers) (declared_kept applies)

  track_is : (k : ℕ) → k < length h.numbers → get_or (map (track_of to.tracks) to.declared.numbers) k [] ≡ track_of to.tracks (slice_index h.numbers k)
  track_is k low = ap (λ (l : List ℕ). get_or (map (track_of to.tracks) l) k []) numbers ∙ get_or-map (track_of to.tracks) h.numbers k 0 [] low

  value_said : (k width bit moment : ℕ) → k < length vs → bit < width → moment < length (times_or to.times) → IsStrictlyIncreasing (times_or to.times)
      → IsLastValue (changes_by_time (coded_at vs k).code items) width bit (slice_index (times_or to.times) moment) (bit_value (get_or (map (track_of to.tracks) to.declared.numbers) k []) width bit moment)
  value_said k width bit moment low narrow early up =
      let a = at_number h.codes vs h.numbers k numbered low in
      let n = slice_index h.numbers k in
      subst (λ (cs : List Change). IsLastValue (changes_by_time (coded_at vs k).code items) width bit (slice_index (times_or to.times) moment) (bit_value cs width bit moment)) (sym (track_is k a.low))
      (value_at_time (times_or to.times) width bit moment (track_of to.tracks n) (changes_by_time (coded_at vs k).code items) up early narrow (within n) (said_there n (coded_at vs k).code a.found))

is_said : (text : List ℕ) (r : Recording) (g : Goes nothing [] (words_of text) (length text) r) (i : HasItems g.more r (start g.last) g.rest) → IsSaid text (recording_of i.to)
is_said text r g i =
    let moments = moments_said {b = start g.last} refl i.applies in
    let variables : i.to.declared.variables ≡ g.last.variables = ap (λ (d : Declarations). d.variables) (declared_kept i.applies) in
    record {
      listed = g.more;
      behind = g.rest;
      declared = g.declares;
      items = i.items;
      read = i.read;
      moments = moments;
      variables = ap (λ (l : List Variable). length l) variables ∙ as_many g.last.variables g.more g.tied.widths;
      widths = λ k low. ap (λ (l : List Variable). width_of (slice_get l k)) variables ∙ same_width g.last.variables g.more k g.tied.widths low;
      values = λ k bit moment low narrow early. value_said g.last g.more i.items i.to i.applies g.tied.numbered k (width_of (slice_get i.to.declared.variables k)) bit moment low narrow early moments.ascending;
    }

pub recordings_are_said : RecordingsAreSaid
recordings_are_said text r says =
    let g = declared text r says in
    let i = has_items g.last g.more (start g.last) g.rest (length text) r g.tied.facts refl g.goes in
    subst (λ (x : Recording). IsSaid text x) i.is (is_said text r g i)
