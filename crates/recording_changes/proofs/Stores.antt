-- Entries stored for each code.
use Rattle.std.proofs.Common.{◌≡◌, ℕ, ◌-◌, ◌<◌, ◌≤◌, List, [], ◌∷◌, ◌++◌, length, map, refl, sym, ap, ◌∙◌, arith, All, slice_index_or, slice_set, get_or}
use Rattle.std.proofs.lemmas.List.{length-map, length-set, map-set, map-append, get_or-map}
use Rattle.std.proofs.lemmas.List.Elements.{All-push, All-tail, All-head, All-set}
use Rattle.std.proofs.lemmas.List.Sorted.{IsNonDecreasingBy-push}
use Rattle.recording_changes.specs.declared.track.Entry.{Entry}
use Rattle.recording_changes.specs.Held.{Change, change, with_change}
use Rattle.recording_changes.specs.Stored.{IsTrackEntry, IsTrack, change_of, changes_of, shown}
use Rattle.recording_changes.specs.Texts.{Grows}

pub later : {texts texts' m m' : ℕ} (es : List Entry) → texts ≤ texts' → m ≤ m' → IsTrack texts m es → IsTrack texts' m' es
later es s l h = record {
  ordered = h.ordered;
  kept = λ k d lt. let was = h.kept k d lt in record { text = omega (arith, s, was.text); before = omega (arith, l, was.before) };
}

pub later_all : {texts texts' m m' : ℕ} (ts : List (List Entry)) → texts ≤ texts' → m ≤ m' → All (IsTrack texts m) ts → All (IsTrack texts' m') ts
later_all ts s l h = λ k d lt. later _ s l (h k d lt)

pushed : {texts m : ℕ} (es : List Entry) (e : Entry) → IsTrack texts m es → IsTrackEntry texts m e → e.moment ≡ m → IsTrack texts m (es ++ e ∷ [])
pushed {texts = texts} {m = m} es e h k is = record {
  ordered = IsNonDecreasingBy-push (λ (e : Entry). e.moment) es e h.ordered (λ d lt. rw is ((h.kept (length es - 1) d (omega (arith, lt))).before));
  kept = All-push (IsTrackEntry texts m) es e h.kept k;
}

changes_stay : (old new : List (List ℕ)) {m : ℕ} (es : List Entry) → Grows old new → All (IsTrackEntry (length old) m) es → changes_of new es ≡ changes_of old es
changes_stay old new [] g h = refl
changes_stay old new {m = m} (e ∷ es) g h =
    let one : IsTrackEntry (length old) m e = All-head (IsTrackEntry (length old) m) e es h in
    let rest : changes_of new es ≡ changes_of old es = changes_stay old new {m = m} es g (All-tail (IsTrackEntry (length old) m) e es h) in
    rw (g.kept e.text one.text, rest) refl

tracks_stay : (old new : List (List ℕ)) {m : ℕ} (ts : List (List Entry)) → Grows old new → All (IsTrack (length old) m) ts → map (changes_of new) ts ≡ map (changes_of old) ts
tracks_stay old new [] g h = refl
tracks_stay old new {m = m} (t ∷ ts) g h =
    let one : IsTrack (length old) m t = All-head (IsTrack (length old) m) t ts h in
    let first : changes_of new t ≡ changes_of old t = changes_stay old new {m = m} t g one.kept in
    let rest : map (changes_of new) ts ≡ map (changes_of old) ts = tracks_stay old new {m = m} ts g (All-tail (IsTrack (length old) m) t ts h) in
    rw (first, rest) refl

-- what a call found: the codes, and the track of one of them
pub known : (texts : List (List ℕ)) (ts : List (List Entry)) (now : List (List Change)) (code : ℕ) → map (changes_of texts) ts ≡ now → code < length now → code < length ts
known texts ts now code is lt = let h : code < length (map (changes_of texts) ts) = rw is lt in rw (← length-map ts (changes_of texts)) h

changes_pushed : (texts : List (List ℕ)) (ts : List (List Entry)) (code : ℕ) (t new : List Entry) (e : Entry) → code < length ts → t ≡ get_or ts code t → new ≡ t ++ e ∷ [] → map (changes_of texts) (slice_set ts code new) ≡ with_change (map (changes_of texts) ts) code (change_of texts e)
changes_pushed texts ts code t new e lt is by =
    map-set (changes_of texts) ts code new ∙ ap (λ (x : List Change). slice_set (map (changes_of texts) ts) code x) (rw by (map-append (change_of texts) t (e ∷ []) ∙ ap (λ (x : List Change). x ++ change_of texts e ∷ []) (sym (get_or-map (changes_of texts) ts code t [] lt ∙ ap (changes_of texts) (sym is)))))

pub added_is : (old new : List (List ℕ)) (ds : List ℕ) (was m text : ℕ) (ts : List (List Entry)) (code : ℕ) (t track : List Entry) → Grows old new → slice_index_or new text [] ≡ ds → code < length ts → t ≡ get_or ts code t → track ≡ t ++ record { moment = m; text = text } ∷ [] → All (IsTrack (length old) was) ts → shown m new (slice_set ts code track) ≡ record { moment = m; tracks = with_change (map (changes_of old) ts) code (change m ds) }
added_is old new ds was m text ts code t track g at lt is by h =
    let tr : map (changes_of new) (slice_set ts code track) ≡ with_change (map (changes_of old) ts) code (change m ds) =
    changes_pushed new ts code t track (record { moment = m; text = text }) lt is by
    ∙ rw (at, tracks_stay old new {m = was} ts g h) refl in
    rw tr refl

pub added_keeps : {old new : ℕ} (was m text : ℕ) (ts : List (List Entry)) (code : ℕ) (t track : List Entry) → old ≤ new → was ≤ m → text < new → code < length ts → t ≡ get_or ts code t → track ≡ t ++ record { moment = m; text = text } ∷ [] → All (IsTrack old was) ts → All (IsTrack new m) (slice_set ts code track)
added_keeps {new = new} was m text ts code t track s l x lt is by h =
    All-set (IsTrack new m) ts code track (rw (by, is) (pushed (get_or ts code t) (record { moment = m; text = text }) (later _ s l (h code t lt)) (record { text = x; before = omega arith }) refl)) (later_all ts s l h)

pub same_keeps : {old new : ℕ} (was m : ℕ) (ts : List (List Entry)) (code : ℕ) (t track : List Entry) → old ≤ new → was ≤ m → code < length ts → t ≡ get_or ts code t → track ≡ t → All (IsTrack old was) ts → All (IsTrack new m) (slice_set ts code track)
same_keeps {new = new} was m ts code t track s l lt is same h =
    All-set (IsTrack new m) ts code track (rw (same, is) (later _ s l (h code t lt))) (later_all ts s l h)

pub opened : {texts m : ℕ} (ts : List (List Entry)) → All (IsTrack texts m) ts → All (IsTrack texts m) (ts ++ [] ∷ [])
opened {texts = texts} {m = m} ts h = All-push (IsTrack texts m) ts [] h (record { ordered = λ i j d le lt. absurd (omega (arith, lt)); kept = λ k d lt. absurd (omega (arith, lt)) })

-- a code more or less is none
pub added_count : (old new : List (List ℕ)) (ts : List (List Entry)) (now : List (List Change)) (code : ℕ) (t : List Entry) → map (changes_of old) ts ≡ now → length (map (changes_of new) (slice_set ts code t)) ≡ length now
added_count old new ts now code t is =
    let a : length (map (changes_of new) (slice_set ts code t)) ≡ length (slice_set ts code t) = length-map (slice_set ts code t) (changes_of new) in
    let b : length (map (changes_of old) ts) ≡ length ts = length-map ts (changes_of old) in
    omega (arith, a, b, length-set ts code t, ap (λ (cs : List (List Change)). length cs) is)
