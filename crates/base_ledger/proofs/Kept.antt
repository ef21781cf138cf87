-- What a change more and a step more leave of a log.
use Rattle.std.proofs.Common.{◌≡◌, ℕ, ◌+◌, ◌-◌, ◌*◌, ◌/◌, ◌%◌, ◌<◌, ◌≤◌, ◌^◌, List, [], ◌∷◌, ◌++◌, length, take, drop, replicate, set, slice_index, slice_index_or, refl, sym, ap, ◌∙◌, arith, subst, ⊎_elim}
use Rattle.std.specs.List.{slice_range}
use Rattle.std.proofs.lemmas.Bool.{cases_eq, cases_lt}
use Rattle.std.proofs.lemmas.List.{drop-append-le, get_or_append_left, get_or_push, drop-take, take-take, length-drop, length_push, take-append-drop, take-append-le, take_all}
use Rattle.std.proofs.lemmas.List.Edits.{get_or-between, length-between}
use Rattle.base_ledger.specs.Change.{AreInWidth, nth_change, packed_change, no_change, change_position}
use Rattle.base_ledger.specs.Ledger.{AreBounds, AreBoundsAt, IsLogged, RowFollows, finished_ledger, LedgerView, LedgerStep, logged, step_changes, steps_of, ledger_of, new_ledger, no_step, step_row, row_back, step_between, steps_between, after_turn, with_put, row_with}
use Rattle.base_ledger.specs.declared.change.Change.{Change}
use Rattle.base_ledger.proofs.Rows.{length-row_with, change_payload-packed_change, change_position-packed_change, row_with-append}
use Rattle.base_ledger.proofs.Steps.{step_there, steps_long, steps_more, steps_stay}

pub in_width : (width : ℕ) (blank : List ℕ) (changes : List Change) (starts : List ℕ) (view : LedgerView) (position : ℕ) → ledger_of width blank changes starts ≡ view → position < view.width → position < width
in_width width blank changes starts view position view_is less =
    let same : width ≡ view.width = ap (λ (v : LedgerView). v.width) view_is in
    omega (arith, same, less)

pub ledger_new : (width first : ℕ) (changes : List Change) (starts : List ℕ) → changes ≡ [] → starts ≡ 0 ∷ [] → ledger_of width (replicate width first) changes starts ≡ new_ledger width first
unfolding steps_between
ledger_new width first changes starts none one = rw (none, one) refl

pub kept_new : (width first : ℕ) (changes : List Change) (starts : List ℕ) → width ≤ 2 ^ 24 → changes ≡ [] → starts ≡ 0 ∷ [] → IsLogged width (replicate width first) changes starts (replicate width first) (replicate width first) (replicate width first)
kept_new width first changes starts wide none one =
    let long : length starts ≡ 1 = rw one refl in
    let zero_at : (k : ℕ) → k < length starts → slice_index starts k ≡ 0 = λ k less. (let is : k ≡ 0 = omega (arith, less, long) in rw (is, one) refl) in
    rw none record {
      wide = wide;
      inside = λ i less. absurd (omega (arith, less));
      some = omega (arith, long);
      bounds = record { within = λ k less. (let is = zero_at k less in omega (arith, is)); rising = λ k less. absurd (omega (arith, less, long)) };
      now = refl;
      one = let z = zero_at (length starts - 1) (omega (arith, long)) in rw z refl;
      two = let z = zero_at (length starts - 2) (omega (arith, long)) in rw z refl;
    }

-- With a change more.
pub kept_put : (width : ℕ) (blank : List ℕ) (changes : List Change) (starts row one two : List ℕ) (position payload : ℕ) → length blank ≡ width → position < width → payload < 256 → IsLogged width blank changes starts row one two → IsLogged width blank (changes ++ packed_change position payload ∷ []) starts (set row position payload) one two
kept_put width blank changes starts row one two position payload wide less small kept = record {
  wide = kept.wide;
  inside = λ i low. ⊎_elim (λ before. earlier i before) (λ behind. here i low behind) (cases_lt i (length changes));
  some = kept.some;
  bounds = record { within = λ k low. (let w = kept.bounds.within k low in omega (arith, w, long)); rising = kept.bounds.rising };
  now = now_is;
  one = kept.one ∙ sym (ap (row_with blank) (take-append-le (slice_index starts (length starts - 1)) changes (packed_change position payload ∷ []) (kept.bounds.within (length starts - 1) (let s = kept.some in omega (arith, s)))));
  two = kept.two ∙ sym (ap (row_with blank) (take-append-le (slice_index starts (length starts - 2)) changes (packed_change position payload ∷ []) (kept.bounds.within (length starts - 2) (let s = kept.some in omega (arith, s)))));
}
  where
    long : length (changes ++ packed_change position payload ∷ []) ≡ length changes + 1
    long = length_push changes (packed_change position payload)

    at_is : (position * 256 + payload) / 256 ≡ position
    at_is = change_position-packed_change position payload small

    is : (position * 256 + payload) % 256 ≡ payload
    is = change_payload-packed_change position payload small

    earlier : (i : ℕ) → i < length changes → change_position (nth_change (changes ++ packed_change position payload ∷ []) i) < width
    earlier i before = rw (get_or_append_left changes (packed_change position payload ∷ []) no_change i before) (kept.inside i before)

    here : (i : ℕ) → i < length (changes ++ packed_change position payload ∷ []) → length changes ≤ i → change_position (nth_change (changes ++ packed_change position payload ∷ []) i) < width
    here i low behind =
        let same : length changes ≡ i = omega (arith, low, behind, long) in
        rw (get_or_push changes (packed_change position payload) no_change i same, at_is) less

    now_is : set row position payload ≡ row_with blank (changes ++ packed_change position payload ∷ [])
    now_is =
        let last : row_with (row_with blank changes) (packed_change position payload ∷ []) ≡ set (row_with blank changes) position payload = rw (at_is, is) refl in
        ap (λ (r : List ℕ). set r position payload) kept.now ∙ sym last ∙ sym (row_with-append blank changes (packed_change position payload ∷ []))

pub ledger_put : (width : ℕ) (blank : List ℕ) (changes : List Change) (starts row one two : List ℕ) (position payload : ℕ) → payload < 256 → IsLogged width blank changes starts row one two → ledger_of width blank (changes ++ packed_change position payload ∷ []) starts ≡ with_put (ledger_of width blank changes starts) position payload
ledger_put width blank changes starts row one two position payload small kept =
    let before = steps_stay blank changes more starts kept.bounds in
    cc (before, row_is, changes_is)
  where
    more : List Change
    more = packed_change position payload ∷ []

    start : ℕ
    start = slice_index starts (length starts - 1)

    low : start ≤ length changes
    low = kept.bounds.within (length starts - 1) (let s = kept.some in omega (arith, s))

    long : length (changes ++ more) ≡ length changes + 1
    long = length_push changes (packed_change position payload)

    row_is : row_with blank (take (length (changes ++ more)) (changes ++ more)) ≡ set (row_with blank (take (length changes) changes)) position payload
    row_is =
        let at_is = change_position-packed_change position payload small in
        let is = change_payload-packed_change position payload small in
        let last : row_with (row_with blank changes) more ≡ set (row_with blank changes) position payload = rw (at_is, is) refl in
        rw (take_all (length (changes ++ more)) (changes ++ more) (omega arith), take_all (length changes) changes (omega arith)) (row_with-append blank changes more ∙ last)

    changes_is : slice_range (changes ++ more) start (length (changes ++ more)) ≡ slice_range changes start (length changes) ++ more
    changes_is =
        let rest = length-drop start changes in
        let rest_long = length_push (drop start changes) (packed_change position payload) in
        rw (drop-append-le start changes more low, take_all (length (changes ++ more) - start) (drop start changes ++ more) (omega (arith, long, rest, rest_long, low)), take_all (length changes - start) (drop start changes) (omega (arith, rest))) refl

-- Parts that follow one another.
joined : {X : Type 0} (xs : List X) (a b : ℕ) → a ≤ b → b ≤ length xs → take a xs ++ slice_range xs a b ≡ take b xs
joined xs a b low within =
    let front : take a (take b xs) ≡ take a xs = grind (arith, take-take) in
    let e : a + (b - a) ≡ b = omega (arith, low) in
    let back : drop a (take b xs) ≡ take (b - a) (drop a xs) = ap (λ k. drop a (take k xs)) (sym e) ∙ drop-take a (b - a) xs in
    ap (λ f. f ++ take (b - a) (drop a xs)) (sym front) ∙ ap (λ r. take a (take b xs) ++ r) (sym back) ∙ take-append-drop a (take b xs)

pub written_on : (blank : List ℕ) (changes : List Change) (a b : ℕ) → a ≤ b → b ≤ length changes → row_with (row_with blank (take a changes)) (slice_range changes a b) ≡ row_with blank (take b changes)
written_on blank changes a b low within = sym (row_with-append blank (take a changes) (slice_range changes a b)) ∙ ap (row_with blank) (joined changes a b low within)

-- Changes of a part are within the width.
pub within_part : (width : ℕ) (changes : List Change) (a b : ℕ) → a ≤ b → b ≤ length changes → AreInWidth width changes → AreInWidth width (slice_range changes a b)
within_part width changes a b low within inside i less =
    let long = length-between changes a b within in
    let small : i < b - a = omega (arith, less, long) in
    rw (get_or-between changes a b i no_change (omega (arith, small))) (inside (a + i) (omega (arith, small, within)))

-- With a step more.
pub kept_turn : (width : ℕ) (blank : List ℕ) (changes : List Change) (starts row one two : List ℕ) → IsLogged width blank changes starts row one two → IsLogged width blank changes (starts ++ length changes ∷ []) row (row_with one (slice_range changes (slice_index starts (length starts - 1)) (length changes))) (row_with two (slice_range changes (slice_index starts (length starts - 2)) (slice_index starts (length starts - 1))))
kept_turn width blank changes starts row one two kept = record {
  wide = kept.wide;
  inside = kept.inside;
  some = omega (arith, long);
  bounds = record { within = λ k low. ⊎_elim (λ before. (let e = stays k before in let w = kept.bounds.within k before in omega (arith, e, w))) (λ behind. (let e = last_is k (omega (arith, low, behind, long)) in omega (arith, e))) (cases_lt k (length starts)); rising = λ k low. rises k low };
  now = kept.now;
  one = ap (λ (r : List ℕ). row_with r (slice_range changes start (length changes))) kept.one ∙ written_on blank changes start (length changes) start_low (omega arith) ∙ ap (λ n. row_with blank (take n changes)) (sym (last_is (length (starts ++ length changes ∷ []) - 1) (omega (arith, long))));
  two = ap (λ (r : List ℕ). row_with r (slice_range changes before start)) kept.two ∙ written_on blank changes before start before_low start_low ∙ ap (λ n. row_with blank (take n changes)) (sym second_last);
}
  where
    start : ℕ
    start = slice_index starts (length starts - 1)

    before : ℕ
    before = slice_index starts (length starts - 2)

    long : length (starts ++ length changes ∷ []) ≡ length starts + 1
    long = length_push starts (length changes)

    some : 0 < length starts
    some = kept.some

    start_low : start ≤ length changes
    start_low = kept.bounds.within (length starts - 1) (omega (arith, some))

    stays : (k : ℕ) → k < length starts → slice_index (starts ++ length changes ∷ []) k ≡ slice_index starts k
    stays k less = get_or_append_left starts (length changes ∷ []) 0 k less

    last_is : (k : ℕ) → k ≡ length starts → slice_index (starts ++ length changes ∷ []) k ≡ length changes
    last_is k is = get_or_push starts (length changes) 0 k (sym is)

    second_last : slice_index (starts ++ length changes ∷ []) (length (starts ++ length changes ∷ []) - 2) ≡ start
    second_last =
        let e : length (starts ++ length changes ∷ []) - 2 ≡ length starts - 1 = omega (arith, long, some) in
        ap (slice_index (starts ++ length changes ∷ [])) e ∙ stays (length starts - 1) (omega (arith, some))

    before_low : before ≤ start
    before_low = ⊎_elim (λ one_only. (let e : length starts - 2 ≡ length starts - 1 = omega (arith, one_only, some) in let same : before ≡ start = ap (slice_index starts) e in omega (arith, same))) (λ more. (let e : length starts - 2 + 1 ≡ length starts - 1 = omega (arith, more, some) in subst (λ k. before ≤ slice_index starts k) e (kept.bounds.rising (length starts - 2) (omega (arith, more, some))))) (cases_eq (length starts) 1)

    rises : (k : ℕ) → k + 1 < length (starts ++ length changes ∷ []) → slice_index (starts ++ length changes ∷ []) k ≤ slice_index (starts ++ length changes ∷ []) (k + 1)
    rises k low = ⊎_elim (λ inner. (let a = stays k (omega (arith, inner)) in let b = stays (k + 1) inner in let r = kept.bounds.rising k inner in omega (arith, a, b, r))) (λ edge. (let here : k < length starts = omega (arith, low, long) in let a = stays k here in let b = last_is (k + 1) (omega (arith, low, long, edge)) in let w = kept.bounds.within k here in omega (arith, a, b, w))) (cases_lt (k + 1) (length starts))

pub ledger_turn : (width : ℕ) (blank : List ℕ) (changes : List Change) (starts : List ℕ) → 0 < length starts → ledger_of width blank changes (starts ++ length changes ∷ []) ≡ after_turn (ledger_of width blank changes starts)
ledger_turn width blank changes starts some =
    let before = steps_more blank changes starts (length changes) some in
    let long = length_push starts (length changes) in
    let last : slice_index (starts ++ length changes ∷ []) (length (starts ++ length changes ∷ []) - 1) ≡ length changes = get_or_push starts (length changes) 0 (length (starts ++ length changes ∷ []) - 1) (omega (arith, long)) in
    let none : length changes - length changes ≡ 0 = omega arith in
    let empty : slice_range changes (length changes) (length changes) ≡ [] = rw none refl in
    let empty_last : slice_range changes (slice_index (starts ++ length changes ∷ []) (length (starts ++ length changes ∷ []) - 1)) (length changes) ≡ [] = rw last empty in
    cc (before, empty_last)

-- The rows that lie one and two steps before.
pub back_is : (width : ℕ) (blank : List ℕ) (changes : List Change) (starts row one two : List ℕ) (view : LedgerView) (back : ℕ) → IsLogged width blank changes starts row one two → ledger_of width blank changes starts ≡ view → 0 < back → back ≤ length view.before → row_back view back ≡ row_with blank (take (slice_index starts (length starts - back)) changes)
back_is width blank changes starts row one two view back kept view_is positive less =
    let count = steps_long blank changes starts in
    let same : steps_between blank changes starts ≡ view.before = ap (λ (v : LedgerView). v.before) view_is in
    let long : length view.before ≡ length starts - 1 = sym (ap length same) ∙ count in
    let some = kept.some in
    let k : length view.before - back + 1 < length starts = omega (arith, long, some, less, positive) in
    let there = step_there blank changes starts (length view.before - back) k in
    let e : length view.before - back + 1 ≡ length starts - back = omega (arith, long, some, less, positive) in
    let found : slice_index_or view.before (length view.before - back) no_step ≡ step_between blank changes (slice_index starts (length view.before - back)) (slice_index starts (length view.before - back + 1)) = ap (λ (steps : List LedgerStep). slice_index_or steps (length view.before - back) no_step) (sym same) ∙ there in
    ap (λ (s : LedgerStep). s.row) found ∙ ap (λ j. row_with blank (take (slice_index starts j) changes)) e

-- The bounds of a step.
pub bounds_at : (blank : List ℕ) (changes : List Change) (starts : List ℕ) (steps : List LedgerStep) (step : ℕ) → steps_between blank changes starts ≡ steps → AreBounds changes starts → step < length steps → AreBoundsAt (length changes) starts step
bounds_at blank changes starts steps step same bounds less =
    let count = steps_long blank changes starts in
    let long : length steps ≡ length starts - 1 = sym (ap length same) ∙ count in
    let next : step + 1 < length starts = omega (arith, long, less) in
    record { next = next; rising = bounds.rising step next; within = bounds.within (step + 1) next }

pub changes_are : (blank : List ℕ) (changes : List Change) (starts : List ℕ) (steps : List LedgerStep) (step : ℕ) → steps_between blank changes starts ≡ steps → step < length steps → step_changes steps step ≡ slice_range changes (slice_index starts step) (slice_index starts (step + 1))
changes_are blank changes starts steps step same less =
    let count = steps_long blank changes starts in
    let long : length steps ≡ length starts - 1 = sym (ap length same) ∙ count in
    let next : step + 1 < length starts = omega (arith, long, less) in
    ap (λ (ss : List LedgerStep). (slice_index_or ss step no_step).changes) (sym same) ∙ ap (λ (s : LedgerStep). s.changes) (step_there blank changes starts step next)

pub row_is : (blank : List ℕ) (changes : List Change) (starts : List ℕ) (steps : List LedgerStep) (step : ℕ) → steps_between blank changes starts ≡ steps → step < length steps → step_row steps step ≡ row_with blank (take (slice_index starts (step + 1)) changes)
row_is blank changes starts steps step same less =
    let count = steps_long blank changes starts in
    let long : length steps ≡ length starts - 1 = sym (ap length same) ∙ count in
    let next : step + 1 < length starts = omega (arith, long, less) in
    ap (λ (ss : List LedgerStep). (slice_index_or ss step no_step).row) (sym same) ∙ ap (λ (s : LedgerStep). s.row) (step_there blank changes starts step next)

-- Where the step under way and the one before begin.
part_order : (width : ℕ) (blank : List ℕ) (changes : List Change) (starts row one two : List ℕ) → IsLogged width blank changes starts row one two → (slice_index starts (length starts - 2) ≤ slice_index starts (length starts - 1)) × (slice_index starts (length starts - 1) ≤ length changes)
part_order width blank changes starts row one two kept = (before_low, kept.bounds.within (length starts - 1) (omega (arith, some)))
  where
    some : 0 < length starts
    some = kept.some

    before_low : slice_index starts (length starts - 2) ≤ slice_index starts (length starts - 1)
    before_low = ⊎_elim (λ one_only. (let e : length starts - 2 ≡ length starts - 1 = omega (arith, one_only, some) in let same : slice_index starts (length starts - 2) ≡ slice_index starts (length starts - 1) = ap (slice_index starts) e in omega (arith, same))) (λ more. (let e : length starts - 2 + 1 ≡ length starts - 1 = omega (arith, more, some) in subst (λ k. slice_index starts (length starts - 2) ≤ slice_index starts k) e (kept.bounds.rising (length starts - 2) (omega (arith, more, some))))) (cases_eq (length starts) 1)

-- The same, with the names of the code.
pub kept_turned : (width : ℕ) (blank : List ℕ) (changes : List Change) (starts row one two : List ℕ) (new new_one new_two : List ℕ) (before start end : ℕ) → IsLogged width blank changes starts row one two → start ≡ slice_index starts (length starts - 1) → before ≡ slice_index starts (length starts - 2) → end ≡ length changes → new ≡ starts ++ end ∷ [] → new_one ≡ row_with one (slice_range changes start end) → new_two ≡ row_with two (slice_range changes before start) → IsLogged width blank changes new row new_one new_two
kept_turned width blank changes starts row one two new new_one new_two before start end kept start_is before_is end_is new_is one_is two_is =
    rw (one_is, two_is, new_is, start_is, before_is, end_is) (kept_turn width blank changes starts row one two kept)

pub ledger_turned : (width : ℕ) (blank : List ℕ) (changes : List Change) (starts new : List ℕ) (view : LedgerView) (end : ℕ) → 0 < length starts → end ≡ length changes → new ≡ starts ++ end ∷ [] → ledger_of width blank changes starts ≡ view → ledger_of width blank changes new ≡ after_turn view
ledger_turned width blank changes starts new view end some end_is new_is view_is =
    ap (ledger_of width blank changes) (new_is ∙ ap (λ n. starts ++ n ∷ []) end_is) ∙ ledger_turn width blank changes starts some ∙ ap after_turn view_is

-- The changes that are written into the rows before fit them.
pub fits_two : (width : ℕ) (blank : List ℕ) (changes : List Change) (starts row one two : List ℕ) (old : List ℕ) (log : List Change) (before start : ℕ) → length blank ≡ width → IsLogged width blank changes starts row one two → start ≡ slice_index starts (length starts - 1) → before ≡ slice_index starts (length starts - 2) → old ≡ two → log ≡ changes → AreInWidth (length old) (slice_range log before start)
fits_two width blank changes starts row one two old log before start wide kept start_is before_is old_is log_is =
    let long : length old ≡ width = ap length (old_is ∙ kept.two) ∙ length-row_with blank (take (slice_index starts (length starts - 2)) changes) ∙ wide in
    let order = part_order width blank changes starts row one two kept in
    rw (long, log_is, start_is, before_is) (within_part width changes (slice_index starts (length starts - 2)) (slice_index starts (length starts - 1)) order.0 order.1 kept.inside)

pub fits_one : (width : ℕ) (blank : List ℕ) (changes : List Change) (starts row one two : List ℕ) (old : List ℕ) (log : List Change) (start end : ℕ) → length blank ≡ width → IsLogged width blank changes starts row one two → start ≡ slice_index starts (length starts - 1) → end ≡ length changes → old ≡ one → log ≡ changes → AreInWidth (length old) (slice_range log start end)
fits_one width blank changes starts row one two old log start end wide kept start_is end_is old_is log_is =
    let long : length old ≡ width = ap length (old_is ∙ kept.one) ∙ length-row_with blank (take (slice_index starts (length starts - 1)) changes) ∙ wide in
    let order = part_order width blank changes starts row one two kept in
    rw (long, log_is, start_is, end_is) (within_part width changes (slice_index starts (length starts - 1)) (length changes) order.1 (omega arith) kept.inside)

-- A finished ledger is that of all steps.
pub finished : (width : ℕ) (blank : List ℕ) (changes : List Change) (starts new : List ℕ) (view : LedgerView) (end : ℕ) → 0 < length starts → end ≡ length changes → new ≡ starts ++ end ∷ [] → ledger_of width blank changes starts ≡ view → record { width = width; steps = steps_between blank changes new } ≡ finished_ledger view
finished width blank changes starts new view end some end_is new_is view_is =
    let all = ap (steps_between blank changes) (new_is ∙ ap (λ n. starts ++ n ∷ []) end_is) ∙ steps_more blank changes starts (length changes) some in
    let made : record { width = width; steps = steps_between blank changes new } ≡ finished_ledger (ledger_of width blank changes starts) = ap (λ (steps : List LedgerStep). record { width = width; steps = steps }) all in
    made ∙ ap finished_ledger view_is

pub row_follows : (blank : List ℕ) (changes : List Change) (starts : List ℕ) (steps : List LedgerStep) (step : ℕ) → steps_between blank changes starts ≡ steps → AreBounds changes starts → step < length steps → RowFollows steps step
row_follows blank changes starts steps step same bounds less later =
    let at = bounds_at blank changes starts steps step same bounds less in
    let here = row_is blank changes starts steps step same less in
    let e : step - 1 + 1 ≡ step = omega (arith, later) in
    let earlier : step_row steps (step - 1) ≡ row_with blank (take (slice_index starts step) changes) = row_is blank changes starts steps (step - 1) same (omega (arith, less)) ∙ ap (λ k. row_with blank (take (slice_index starts k) changes)) e in
    let part = changes_are blank changes starts steps step same less in
    let on = written_on blank changes (slice_index starts step) (slice_index starts (step + 1)) at.rising at.within in
    here ∙ sym on ∙ ap (λ (r : List ℕ). row_with r (slice_range changes (slice_index starts step) (slice_index starts (step + 1)))) (sym earlier) ∙ ap (row_with (step_row steps (step - 1))) (sym part)

-- How many steps lie before the one under way, and the rows of all.
pub before_is : (width first : ℕ) (changes : List Change) (starts : List ℕ) (view : LedgerView) → logged width first changes starts ≡ view → length view.before ≡ length starts - 1
before_is width first changes starts view view_is =
    let long = steps_long (replicate width first) changes starts in
    sym (ap (λ (v : LedgerView). length v.before) view_is) ∙ long

pub row_last : (view : LedgerView) (step : ℕ) → step ≡ length view.before → step_row (steps_of view) step ≡ view.last.row
row_last view step is = ap (λ (s : LedgerStep). s.row) (get_or_push view.before view.last no_step step (sym is))

pub row_earlier : (view : LedgerView) (step : ℕ) → step < length view.before → step_row (steps_of view) step ≡ step_row view.before step
row_earlier view step less = ap (λ (s : LedgerStep). s.row) (get_or_append_left view.before (view.last ∷ []) no_step step less)
