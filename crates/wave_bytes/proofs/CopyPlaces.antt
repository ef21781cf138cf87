-- Positions that copy others: what the next place's position copies, and the bytes of copies as rows grow.
use Rattle.std.proofs.Common.{◌≡◌, ℕ, ◌+◌, ◌-◌, ◌*◌, ◌%◌, ◌<◌, ◌≤◌, ◌==◌, true, List, [], ◌∷◌, ◌++◌, length}
use Rattle.std.proofs.Common.{slice_index_or, sym, ap, ◌∙◌, arith, subst, ⊎_elim, nat_lt}
use Rattle.std.proofs.lemmas.Bool.{cases_eq, eqb-true}
use Rattle.wave_bytes.specs.Byte.{copied_byte, repeated_byte}
use Rattle.wave_bytes.specs.Track.{byte_at, is_again}
use Rattle.wave_bytes.specs.Rows.{AreBelow, AreCopiedAgain, AreRoots, AreRows, IsCopyNext, IsFrontOf, IsOwnNext}
use Rattle.wave_bytes.specs.Rows.{RowsView, byte_by, byte_there, bytes_in, is_again_by, nth_root, nth_track, root_place}
use Rattle.wave_bytes.specs.Rows.{rows_of}
use Rattle.wave_bytes.specs.declared.front.Front.{Front}
use Rattle.wave_bytes.specs.declared.track.Entry.{Entry}
use Rattle.wave_bytes.proofs.RowPlaces.{AreRunCopies, again_said, and_both, bytes_at, bytes_long, bytes_more, copy_byte}
use Rattle.wave_bytes.proofs.RowPlaces.{inside_width, later_step, own_byte, put_next, row_back, stands, stands_at}
use Rattle.wave_bytes.proofs.RowPlaces.{there_earlier, there_next, whole_of}

-- The position of the next place copies nothing where its root's place is that place.
pub own_is : (w n : ℕ) (rs : List ℕ) → 0 < w → root_place w rs n ≡ n → nth_root rs (n % w) ≡ n % w
own_is w n rs some is = let whole = whole_of w n some in omega (arith, is, whole)

-- What is copied at a place of the front's step.
pub root_there : (w s n count : ℕ) (front : Front) (rs : List ℕ) (hs : List (List Entry)) → AreRows w s n front rs hs
    → (t q : ℕ) → q < w → t * w + nth_root rs q < count
    → slice_index_or (bytes_in w rs hs count) (t * w + nth_root rs q) 0 ≡ byte_at (nth_track hs (nth_root rs q)) t
root_there w s n count front rs hs rows t q low less =
    let root_low = rows.rooted.low q low in
    let own = rows.rooted.root q low in
    bytes_at w rs hs count (t * w + nth_root rs q) less
    ∙ stands_at w t (nth_root rs q) (t * w + nth_root rs q) rs hs (omega (arith, root_low, low)) (omega arith)
    ∙ own_byte hs (nth_root rs q) (nth_root rs (nth_root rs q)) t own
    ∙ ap (λ p. byte_at (nth_track hs p) t) own

-- What the front's position copies, by the next place.
pub front_own : (w n : ℕ) (front : Front) (rs : List ℕ) → 0 < w → IsFrontOf w n front
    → nth_root rs front.position ≡ front.position → root_place w rs n ≡ n
front_own w n front rs some at is =
    let here = stands w front.step front.position n at.whole (inside_width w n front some at) in
    let whole = whole_of w n some in
    let root = ap (nth_root rs) here.1 in
    let same = here.1 in
    omega (arith, whole, root, is, same)

pub front_copy : (w n : ℕ) (front : Front) (rs : List ℕ) → 0 < w → AreRoots w rs → IsFrontOf w n front
    → (nth_root rs front.position ≡ front.position → ⊥) → root_place w rs n < n
front_copy w n front rs some rooted at other =
    let inside = inside_width w n front some at in
    let here = stands w front.step front.position n at.whole inside in
    let whole = whole_of w n some in
    let root = ap (nth_root rs) here.1 in
    let same = here.1 in
    let low = rooted.low front.position inside in
    ⊎_elim (λ (is : nth_root rs front.position ≡ front.position). absurd (other is))
    (λ (far : nth_root rs front.position ≡ front.position → ⊥). omega (arith, whole, root, same, low, far))
    (cases_eq (nth_root rs front.position) front.position)

-- The position copies nothing, where its root's place is the next one; else another one.
pub own_front : (w n : ℕ) (front : Front) (rs : List ℕ) → 0 < w → IsFrontOf w n front → root_place w rs n ≡ n
    → nth_root rs front.position ≡ front.position
own_front w n front rs some at is =
    let here = stands w front.step front.position n at.whole (inside_width w n front some at) in
    ap (nth_root rs) (sym here.1) ∙ own_is w n rs some is ∙ here.1

pub copy_front : (w n : ℕ) (front : Front) (rs : List ℕ) → 0 < w → IsFrontOf w n front → root_place w rs n < n
    → nth_root rs front.position ≡ front.position → ⊥
copy_front w n front rs some at less is =
    let own = front_own w n front rs some at is in
    omega (arith, own, less)

-- What is copied at a place of a step, by the bytes of places that are there.
root_place_is : (w t q k : ℕ) (rs : List ℕ) → q < w → t * w + q ≡ k → root_place w rs k ≡ t * w + nth_root rs q
root_place_is w t q k rs low whole =
    let here = stands w t q k whole low in
    ap (λ u. u * w + nth_root rs (k % w)) here.0 ∙ ap (λ p. t * w + nth_root rs p) here.1

-- What a run asks of copies, by the entries.
pub run_copies : (w s n many : ℕ) (front : Front) (rs : List ℕ) (hs : List (List Entry)) (v : RowsView)
    → AreRows w s n front rs hs → rows_of w s rs hs n ≡ v → w ≤ n → front.position + many ≤ w
    → AreCopiedAgain v many → AreRunCopies w n many front rs hs
run_copies w s n many front rs hs v rows is later fits copied k less early =
    subst (λ b. b ≡ repeated_byte (copied_byte (byte_at (nth_track hs root) (front.step - 1)))) (ap copied_byte here)
    (subst (λ b. copied_byte (slice_index_or bytes from 0) ≡ repeated_byte (copied_byte b)) back there)
  where
    q : ℕ
    q = front.position + k

    root : ℕ
    root = nth_root rs q

    bytes : List ℕ
    bytes = bytes_in w rs hs n

    low : q < w
    low = omega (arith, fits, less)

    from : ℕ
    from = front.step * w + root

    from_low : from < n
    from_low = (let whole = rows.at.whole in omega (arith, early, whole))

    place_is : root_place w rs (n + k) ≡ from
    place_is = root_place_is w front.step q (n + k) rs low (let whole = rows.at.whole in omega (arith, whole))

    some : 0 < front.step
    some = later_step w front.step front.position n rows.at.whole (omega (arith, fits, less)) later

    here : slice_index_or bytes from 0 ≡ byte_at (nth_track hs root) front.step
    here = root_there w s n n front rs hs rows front.step q low from_low

    from_back : from - w ≡ (front.step - 1) * w + root
    from_back = one (front.step - 1) (omega (arith, some))
      where
        one : (t : ℕ) → t + 1 ≡ front.step → from - w ≡ t * w + root
        one t is = subst (λ u. u * w + root - w ≡ t * w + root) is (omega arith)

    back : slice_index_or bytes (from - w) 0 ≡ byte_at (nth_track hs root) (front.step - 1)
    back = ap (λ i. slice_index_or bytes i 0) from_back
        ∙ root_there w s n n front rs hs rows (front.step - 1) q low (omega (arith, from_back, from_low))

    long : length bytes ≡ n
    long = bytes_long w rs hs n

    there : copied_byte (slice_index_or bytes from 0) ≡ repeated_byte (copied_byte (slice_index_or bytes (from - w) 0))
    there = subst (λ i. copied_byte (slice_index_or bytes i 0)
        ≡ repeated_byte (copied_byte (slice_index_or bytes (i - w) 0))) place_is
        ((subst (λ (v : RowsView). AreCopiedAgain v many) (sym is) copied) (n + k) (omega (arith, long))
        (omega (arith, long, less)) (omega (arith, place_is, from_low, long)))

-- The next place's byte, where its position copies another.
pub there_copied : (w n : ℕ) (front : Front) (rs : List ℕ) (hs : List (List Entry)) → 0 < w → IsFrontOf w n front
    → (nth_root rs front.position ≡ front.position → ⊥)
    → byte_there w rs hs n ≡ copied_byte (byte_at (nth_track hs (nth_root rs front.position)) front.step)
there_copied w n front rs hs some at copy =
    stands_at w front.step front.position n rs hs (inside_width w n front some at) at.whole
    ∙ copy_byte hs front.position (nth_root rs front.position) front.step copy

-- A byte behind, of a copy.
pub bytes_copied : (w s n : ℕ) (front : Front) (rs : List ℕ) (hs : List (List Entry)) → 0 < w
    → AreRows w s n front rs hs
    → (nth_root rs front.position ≡ front.position → ⊥)
    → bytes_in w rs hs (n + 1) ≡ bytes_in w rs hs n
    ++ copied_byte (slice_index_or (bytes_in w rs hs n) (root_place w rs (length (bytes_in w rs hs n))) 0) ∷ []
bytes_copied w s n front rs hs some rows copy =
    bytes_more w rs hs n
    ∙ ap (λ b. bytes_in w rs hs n ++ b ∷ [])
    (there_copied w n front rs hs some rows.at copy ∙ ap copied_byte (sym here)
    ∙ ap (λ k. copied_byte (slice_index_or (bytes_in w rs hs n) k 0))
    (sym (root_place_is w front.step front.position n rs inside rows.at.whole)
    ∙ ap (root_place w rs) (sym (bytes_long w rs hs n))))
  where
    inside : front.position < w
    inside = inside_width w n front some rows.at

    here : slice_index_or (bytes_in w rs hs n) (front.step * w + nth_root rs front.position) 0
        ≡ byte_at (nth_track hs (nth_root rs front.position)) front.step
    here = root_there w s n n front rs hs rows front.step front.position inside
        (let low = rows.rooted.low front.position inside in let whole = rows.at.whole in
        omega (arith, low, whole, copy))

-- The front's position copies nothing, as a call asks.
pub own_next : (w s n : ℕ) (front : Front) (rs : List ℕ) (hs : List (List Entry)) (v : RowsView) → 0 < w
    → IsFrontOf w n front → rows_of w s rs hs n ≡ v → IsOwnNext v → nth_root rs front.position ≡ front.position
own_next w s n front rs hs v some at is own =
    own_front w n front rs some at (subst (λ k. root_place w rs k ≡ k) (bytes_long w rs hs n)
    (subst (λ (v : RowsView). IsOwnNext v) (sym is) own))

pub copy_next : (w s n : ℕ) (front : Front) (rs : List ℕ) (hs : List (List Entry)) (v : RowsView) → 0 < w
    → IsFrontOf w n front → rows_of w s rs hs n ≡ v → IsCopyNext v → nth_root rs front.position ≡ front.position → ⊥
copy_next w s n front rs hs v some at is copy =
    copy_front w n front rs some at (subst (λ k. root_place w rs k < k) (bytes_long w rs hs n)
    (subst (λ (v : RowsView). IsCopyNext v) (sym is) copy))

-- A byte that is put and is the one a row before, written again.
pub put_again : (w n byte : ℕ) (front : Front) (rs : List ℕ) (hs : List (List Entry)) → 0 < w → AreRoots w rs
    → nth_root rs front.position ≡ front.position → length hs ≡ w → AreBelow w n hs → IsFrontOf w n front
    → is_again (nth_track hs front.position) front.step byte ≡ true → w ≤ n
    → byte_there w rs (put_next hs front byte) n ≡ repeated_byte (byte_there w rs (put_next hs front byte) (n - w))
put_again w n byte front rs hs some rooted own long below at again later =
    there_next w n byte front rs hs some own long below at ∙ (again_said (nth_track hs p) front.step byte again).1
    ∙ ap repeated_byte (sym (there_earlier w n byte front rs hs some rooted long at (n - w) (omega (arith, some, later))
    ∙ stands_at w (front.step - 1) p (n - w) rs hs inside back
    ∙ own_byte hs p (nth_root rs p) (front.step - 1) own
    ∙ ap (λ q. byte_at (nth_track hs q) (front.step - 1)) own))
  where
    p : ℕ
    p = front.position

    inside : p < w
    inside = inside_width w n front some at

    turned : 0 < front.step
    turned = later_step w front.step p n at.whole inside later

    back : (front.step - 1) * w + p ≡ n - w
    back = one (front.step - 1) (omega (arith, turned))
      where
        one : (t : ℕ) → t + 1 ≡ front.step → t * w + p ≡ n - w
        one t is = row_back w t p n (subst (λ u. u * w + p ≡ n) (sym is) at.whole)

-- A byte that is told to be the one a row before, written again.
pub copied_again_there : (w n byte : ℕ) (front : Front) (rs : List ℕ) (hs : List (List Entry)) → 0 < w
    → IsFrontOf w n front → byte_there w rs hs n ≡ byte
    → is_again_by hs front.position (nth_root rs front.position) front.step byte ≡ true → w ≤ n
    → byte_there w rs hs n ≡ repeated_byte (byte_there w rs hs (n - w))
copied_again_there w n byte front rs hs some at is again later =
    is ∙ eqb-true byte (repeated_byte (byte_by hs p (nth_root rs p) (front.step - 1)))
    (and_both (nat_lt 0 front.step) (byte == repeated_byte (byte_by hs p (nth_root rs p) (front.step - 1))) again).1
    ∙ ap repeated_byte (sym (stands_at w (front.step - 1) p (n - w) rs hs inside back))
  where
    p : ℕ
    p = front.position

    inside : p < w
    inside = inside_width w n front some at

    turned : 0 < front.step
    turned = later_step w front.step p n at.whole inside later

    back : (front.step - 1) * w + p ≡ n - w
    back = one (front.step - 1) (omega (arith, turned))
      where
        one : (t : ℕ) → t + 1 ≡ front.step → t * w + p ≡ n - w
        one t is = row_back w t p n (subst (λ u. u * w + p ≡ n) (sym is) at.whole)
