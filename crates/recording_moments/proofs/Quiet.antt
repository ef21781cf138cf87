-- A part of the table has each variable that changes in its moment, and the others are quiet.
use Rattle.std.proofs.Common.{◌≡◌, ℕ, suc, ◌+◌, ◌-◌, ◌<◌, ◌≤◌, true, false, Bool, List, [], ◌∷◌, length, slice_index, refl, sym, ap, ◌∙◌, arith, nat_le, ⊎_elim}
use Rattle.std.specs.Prelude.{if◌then◌else◌, slice_index_or}
use Rattle.std.proofs.lemmas.Bool.{cases_eq, cases_lt}
use Rattle.std.proofs.lemmas.Bool.Decides.{nat_tests}
use Rattle.std.proofs.lemmas.List.{get_or_default}
use Rattle.std.proofs.lemmas.List.Edits.{get_or-between, length-between}
use Rattle.recording_changes.specs.Held.{Change, digit_value, extended, held, moments_of, unknown}
use Rattle.recording_reader.specs.Recording.{Recording, width_at}
use Rattle.recording_moments.specs.Changed.{AreChanged, IsQuiet, moments_at}
use Rattle.recording_moments.specs.Tables.{AreBounds, IsMomentTable, changes_before, part_at}
use Rattle.recording_moments.proofs.Adding.{is_counted}
use Rattle.recording_moments.proofs.Placing.{rises}

le_is : (a b : ℕ) → a ≤ b → nat_le a b ≡ true
le_is a b h = grind (arith, nat_tests)

gt_is : (a b : ℕ) → b < a → nat_le a b ≡ false
gt_is a b h = grind (arith, nat_tests)

same_up_to : (a m : ℕ) → 0 < m → (a ≡ m → ⊥) → nat_le a m ≡ nat_le a (m - 1)
same_up_to a m some apart =
    ⊎_elim (λ later. gt_is a m later ∙ sym (gt_is a (m - 1) (omega (arith, later))))
    (λ before. le_is a m before ∙ sym (le_is a (m - 1) (omega (arith, before, some, apart))))
    (cases_lt m a)

held_stays : (m : ℕ) (changes : List Change) (had : List ℕ) → 0 < m → ((i : ℕ) → i < length (moments_of changes) → slice_index (moments_of changes) i ≡ m → ⊥) → held m changes had ≡ held (m - 1) changes had
held_stays m [] had some none = refl
held_stays m (c ∷ cs) had some none =
    let same : nat_le c.moment m ≡ nat_le c.moment (m - 1) = same_up_to c.moment m some (λ is. none 0 (omega arith) is) in
    ap (λ (b : Bool). held m cs (if b then c.digits else had)) same ∙ held_stays m cs (if nat_le c.moment (m - 1) then c.digits else had) some (λ i less is. none (suc i) (omega (arith, less)) is)

pub is_quiet : (r : Recording) (variable moment : ℕ) → ((i : ℕ) → i < length (moments_at r variable) → slice_index (moments_at r variable) i ≡ moment → ⊥) → IsQuiet r variable moment
is_quiet r variable moment none = record {
  none = none;
  same = λ bit some. ap (λ (ds : List ℕ). digit_value (slice_index (extended (width_at r variable) ds) bit)) (held_stays moment (slice_index_or r.changes variable []) unknown some none);
}

pub bounds_are : (r : Recording) (moments : ℕ) (starts vars : List ℕ) (m : ℕ) → IsMomentTable r moments starts vars → m < moments → AreBounds (length vars) starts m
bounds_are r moments starts vars m table low =
    let long = table.starts_.long in
    let part = table.starts_.part m low in
    let rise = rises r moments starts (m + 1) moments table.starts_ (omega (arith, low)) (omega arith) in
    let whole = table.whole in
    record { next = omega (arith, long, low); rising = omega (arith, part); within = omega (arith, rise, whole) }

pub are_changed : (r : Recording) (starts vars : List ℕ) (m : ℕ) (part : List ℕ) → IsMomentTable r (length r.times) starts vars → m < length r.times → part ≡ part_at vars starts m → AreChanged r m part
are_changed r starts vars m part table low is = record {
  known = λ k d less. (let same = get_or_default part k d 0 less in let at = place_of k less in let known = table.known (slice_index starts m + k) (some k less) in omega (arith, same, at, known));
  has = has;
  others = λ variable less none. is_quiet r variable m (λ i small at. (let found = has variable i less small at in none found.0 found.1 found.2));
}
  where
    bounds : AreBounds (length vars) starts m
    bounds = bounds_are r (length r.times) starts vars m table low

    long : length part ≡ slice_index starts (m + 1) - slice_index starts m
    long = ap length is ∙ length-between vars (slice_index starts m) (slice_index starts (m + 1)) bounds.within

    place_of : (k : ℕ) → k < length part → slice_index part k ≡ slice_index vars (slice_index starts m + k)
    place_of k less = ap (λ (xs : List ℕ). slice_index xs k) is ∙ get_or-between vars (slice_index starts m) (slice_index starts (m + 1)) k 0 (let l = long in omega (arith, l, less))

    some : (k : ℕ) → k < length part → 0 < length r.variables
    some k less =
        let l = long in
        let grows = table.starts_.part m low in
        ⊎_elim (λ none. (let empty : changes_before r m (length r.variables) ≡ 0 = ap (changes_before r m) none in absurd (omega (arith, l, less, grows, empty)))) (λ there. omega (arith, there)) (cases_eq (length r.variables) 0)

    has : (variable i : ℕ) → variable < length r.variables → i < length (moments_at r variable) → slice_index (moments_at r variable) i ≡ m → (k : ℕ) × (k < length part) × (slice_index part k ≡ variable)
    has variable i less small at =
        let found = table.has variable m less low (is_counted (moments_at r variable) m i small at) in
        let begin = found.1 in
        let end = found.2 in
        let l = long in
        let k = found.0 - slice_index starts m in
        let within : k < length part = omega (arith, begin, end, l) in
        let sum : slice_index starts m + k ≡ found.0 = omega (arith, begin) in
        (k, within, place_of k within ∙ ap (slice_index vars) sum ∙ found.3)
