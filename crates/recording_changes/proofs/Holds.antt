-- The digits that a code holds, by its stored entries.
use Rattle.std.proofs.Common.{◌≡◌, ℕ, zero, suc, ◌+◌, ◌-◌, ◌<◌, ◌≤◌, true, false, List, [], ◌∷◌, length, map, refl, sym, ap, ◌∙◌, arith, nat_le, All, slice_index_or, get_or, ⊎_elim}
use Rattle.std.proofs.lemmas.Bool.{cases_lt}
use Rattle.std.proofs.lemmas.List.{length-map, get_or-map, get_or_past}
use Rattle.recording_changes.specs.declared.track.Entry.{Entry}
use Rattle.recording_changes.specs.Held.{Change, held, moments_of, track_of}
use Rattle.recording_changes.specs.Stored.{IsTrackEntry, IsTrack, change_of, changes_of}

held_none : (m : ℕ) (texts : List (List ℕ)) (es : List Entry) (had : List ℕ) → ((k : ℕ) (d : Entry) → 0 ≤ k → k < length es → nat_le (slice_index_or es k d).moment m ≡ false) → held m (changes_of texts es) had ≡ had
held_none m texts [] had h = refl
held_none m texts (e ∷ es) had h = rw (h 0 e (omega arith) (omega arith), held) (held_none m texts es had (λ k d o lt. h (suc k) d (omega arith) (omega (arith, lt))))

held_at : (m : ℕ) (texts : List (List ℕ)) (es : List Entry) (n : ℕ) (had : List ℕ) (d : Entry)
    → n < length es
    → ((k : ℕ) (d : Entry) → 0 ≤ k → k < n + 1 → nat_le (slice_index_or es k d).moment m ≡ true)
    → ((k : ℕ) (d : Entry) → n + 1 ≤ k → k < length es → nat_le (slice_index_or es k d).moment m ≡ false)
    → held m (changes_of texts es) had ≡ (change_of texts (slice_index_or es n d)).digits
held_at m texts [] n had d lt t f = absurd (omega (arith, lt))
held_at m texts (e ∷ es) zero had d lt t f = rw (t 0 e (omega arith) (omega arith), held) (held_none m texts es _ (λ k d o lt. f (suc k) d (omega arith) (omega (arith, lt))))
held_at m texts (e ∷ es) (suc n) had d lt t f =
    held_at m texts es n _ d (omega (arith, lt)) (λ k d o lt. t (suc k) d (omega arith) (omega (arith, lt))) (λ k d o lt. f (suc k) d (omega (arith, o)) (omega (arith, lt)))

track_of_is : (texts : List (List ℕ)) (ts : List (List Entry)) (code : ℕ) (t : List Entry) → code < length ts → t ≡ get_or ts code t → track_of (map (changes_of texts) ts) code ≡ changes_of texts t
track_of_is texts ts code t lt is = get_or-map (changes_of texts) ts code t [] lt ∙ ap (changes_of texts) (sym is)

pub held_of_none : (m : ℕ) (texts : List (List ℕ)) (ts : List (List Entry)) (now : List (List Change)) (code : ℕ) (t : List Entry) (n : ℕ) (had : List ℕ) → map (changes_of texts) ts ≡ now → code < length ts → t ≡ get_or ts code t → n ≡ 0
    → ((k : ℕ) (d : Entry) → n ≤ k → k < length t → nat_le (slice_index_or t k d).moment m ≡ false)
    → had ≡ held m (track_of now code) had
held_of_none m texts ts now code t n had view lt is z f =
    rw (← view, track_of_is texts ts code t lt is) (sym (held_none m texts t had (λ k d o l. f k d (omega (arith, z)) l)))

pub held_of_some : (m : ℕ) (texts : List (List ℕ)) (ts : List (List Entry)) (now : List (List Change)) (code : ℕ) (t : List Entry) (n : ℕ) (had : List ℕ) (e : Entry) → map (changes_of texts) ts ≡ now → code < length ts → t ≡ get_or ts code t → n ≤ length t → ¬ (n ≡ 0)
    → ((k : ℕ) (d : Entry) → 0 ≤ k → k < n → nat_le (slice_index_or t k d).moment m ≡ true)
    → ((k : ℕ) (d : Entry) → n ≤ k → k < length t → nat_le (slice_index_or t k d).moment m ≡ false)
    → ((d : Entry) → e ≡ get_or t (n - 1) d)
    → slice_index_or texts e.text [] ≡ held m (track_of now code) had
held_of_some m texts ts now code t n had e view lt is le some tr fa at =
    rw (← view, track_of_is texts ts code t lt is)
    (ap (λ (e : Entry). (change_of texts e).digits) (at e) ∙ sym (held_at m texts t (n - 1) had e (omega (arith, le, some)) (λ k d o l. tr k d o (omega (arith, l, some))) (λ k d o l. fa k d (omega (arith, o, some)) l)))

pub is_track_at : {texts m : ℕ} (ts : List (List Entry)) (code : ℕ) (t : List Entry) → code < length ts → t ≡ get_or ts code t → All (IsTrack texts m) ts → IsTrack texts m t
is_track_at ts code t lt is h = rw is (h code t lt)

pub kept_at : {texts m : ℕ} (ts : List (List Entry)) (code : ℕ) (t : List Entry) (n : ℕ) (e : Entry) → code < length ts → t ≡ get_or ts code t → All (IsTrack texts m) ts → n ≤ length t → ¬ (n ≡ 0) → ((d : Entry) → e ≡ get_or t (n - 1) d) → IsTrackEntry texts m e
kept_at ts code t n e lt is h le some at = rw (at e) ((is_track_at ts code t lt is h).kept (n - 1) e (omega (arith, le, some)))

pub count_of : (texts : List (List ℕ)) (ts : List (List Entry)) (now : List (List Change)) (code : ℕ) (t : List Entry) → map (changes_of texts) ts ≡ now → code < length ts → t ≡ get_or ts code t → length t ≡ length (track_of now code)
count_of texts ts now code t view lt is =
    rw (← view, track_of_is texts ts code t lt is) (sym (length-map t (change_of texts)))

pub count_of_absent : (texts : List (List ℕ)) (ts : List (List Entry)) (now : List (List Change)) (code : ℕ) → map (changes_of texts) ts ≡ now → length ts ≤ code → 0 ≡ length (track_of now code)
count_of_absent texts ts now code view le =
    let past : track_of now code ≡ [] = rw (← view) (get_or_past (map (changes_of texts) ts) code [] (rw (length-map ts (changes_of texts)) le)) in
    rw past refl

-- A code that has a change is there.
pub code_of_change : (texts : List (List ℕ)) (ts : List (List Entry)) (now : List (List Change)) (code n : ℕ) → map (changes_of texts) ts ≡ now → n < length (track_of now code) → code < length ts
code_of_change texts ts now code n view lt =
    ⊎_elim (λ (there : code < length ts). there) (λ (past : length ts ≤ code). (let none = count_of_absent texts ts now code view past in absurd (omega (arith, lt, none)))) (cases_lt code (length ts))

moments_are : (texts : List (List ℕ)) (es : List Entry) (n : ℕ) (e : Entry) → n < length es → (slice_index_or es n e).moment ≡ get_or (moments_of (changes_of texts es)) n 0
moments_are texts [] n e lt = absurd (omega (arith, lt))
moments_are texts (x ∷ es) zero e lt = refl
moments_are texts (x ∷ es) (suc n) e lt = moments_are texts es n e (omega (arith, lt))

pub moment_is : (texts : List (List ℕ)) (ts : List (List Entry)) (now : List (List Change)) (code n : ℕ) (t : List Entry) (e : Entry) → map (changes_of texts) ts ≡ now → code < length ts → t ≡ get_or ts code t → n < length t → e ≡ slice_index_or t n e → e.moment ≡ get_or (moments_of (track_of now code)) n 0
moment_is texts ts now code n t e view lt is less at =
    rw (← view, track_of_is texts ts code t lt is) (ap (λ (x : Entry). x.moment) at ∙ moments_are texts t n e less)
