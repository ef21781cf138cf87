-- The bytes of places by the entries of positions, as rows grow.
use Rattle.std.proofs.Common.{◌≡◌, ℕ, zero, suc, ◌+◌, ◌-◌, ◌*◌, ◌/◌, ◌%◌, ◌<◌, ◌≤◌, ◌==◌, ◌&&◌, ◌^◌, Bool, true}
use Rattle.std.proofs.Common.{false, List, [], ◌∷◌, ◌++◌, length, map, take, drop, slice_index_or, slice_set, refl}
use Rattle.std.proofs.Common.{sym, ap, ◌∙◌, arith, subst, ⊎_elim, nat_lt, if◌then◌else◌, length-append, length-drop}
use Rattle.std.proofs.Common.{mod-lt}
use Rattle.std.proofs.Math.ListN.{get_or-append}
use Rattle.std.proofs.Math.Seq.{get_or-append_right}
use Rattle.std.proofs.lemmas.Bool.{cases_eq, cases_lt, eq-eqb, eqb-true, ltb-true, ne_eqb}
use Rattle.std.proofs.lemmas.Grind.{get_or-set_at}
use Rattle.std.proofs.lemmas.List.{ext_get_or, get_or-drop, get_or-map, get_or-set_other, get_or-take, length-map}
use Rattle.std.proofs.lemmas.List.{length-set, length-take-le}
use Rattle.std.proofs.lemmas.List.FromFn.{get_or-map-range_with_len, length-map-range_with_len, map-range_with_len_more}
use Rattle.std.proofs.lemmas.Nat.{div-mul-add, mod-mul-add}
use Rattle.wave_bytes.specs.Byte.{copied_byte, repeated_byte}
use Rattle.wave_bytes.specs.Track.{AreBefore, byte_at, is_again, no_entry, nth_entry, with_byte_at}
use Rattle.wave_bytes.specs.Rows.{AreBelow, AreRoots, AreRows, HasRoom, IsFrontOf, IsRowStretch, RowsView, byte_by}
use Rattle.wave_bytes.specs.Rows.{byte_there, bytes_in, nth_root, nth_track, rows_of}
use Rattle.wave_bytes.specs.declared.front.Front.{Front}
use Rattle.wave_bytes.specs.declared.track.Entry.{Entry}
use Rattle.wave_bytes.proofs.ByteDigits.{copied_repeated}
use Rattle.wave_bytes.proofs.Tracks.{at_again, at_earlier, at_here}

-- A place by its step and its position.
pub stands : (w t p k : ℕ) → t * w + p ≡ k → p < w → (k / w ≡ t) × (k % w ≡ p)
stands w t p k whole less =
    (ap (λ n. n / w) (sym whole) ∙ div-mul-add t w p less, ap (λ n. n % w) (sym whole) ∙ mod-mul-add t w p less)

no_less : (w t d p : ℕ) → (t + d) * w + p < t * w + p → ⊥
no_less w t d p less = omega (arith, less)

pub below_step : (w a t p : ℕ) → a * w + p < t * w + p → a < t
below_step w a t p less = ⊎_elim (λ (low : a < t). low)
    (λ (from : t ≤ a). absurd (no_less w t (a - t) p
    (subst (λ n. n * w + p < t * w + p) (omega (arith, from)) less))) (cases_lt a t)

-- A row has places where there is room for one.
pub some_width : (w s n : ℕ) → n < s * w → 0 < w
some_width zero s n less = omega (arith, less)
some_width (suc w) s n less = omega arith

pub whole_of : (w k : ℕ) → 0 < w → k / w * w + k % w ≡ k
whole_of w k some = omega (arith, some)

-- The bytes of the first places.
pub bytes_long : (w : ℕ) (rs : List ℕ) (hs : List (List Entry)) (n : ℕ) → length (bytes_in w rs hs n) ≡ n
unfolding bytes_in
bytes_long w rs hs n = length-map-range_with_len (byte_there w rs hs) 0 n

pub bytes_at : (w : ℕ) (rs : List ℕ) (hs : List (List Entry)) (n k : ℕ) → k < n
    → slice_index_or (bytes_in w rs hs n) k 0 ≡ byte_there w rs hs k
unfolding bytes_in
bytes_at w rs hs n k less = get_or-map-range_with_len (byte_there w rs hs) 0 n k k 0 less (omega arith)

pub bytes_more : (w : ℕ) (rs : List ℕ) (hs : List (List Entry)) (n : ℕ)
    → bytes_in w rs hs (n + 1) ≡ bytes_in w rs hs n ++ byte_there w rs hs n ∷ []
unfolding bytes_in
bytes_more w rs hs n = map-range_with_len_more (byte_there w rs hs) 0 n n (omega arith)

pub bytes_none : (w : ℕ) (rs : List ℕ) (hs : List (List Entry)) → bytes_in w rs hs 0 ≡ []
unfolding bytes_in
bytes_none w rs hs = refl

bytes_same : (w : ℕ) (rs : List ℕ) (hs ks : List (List Entry)) (n : ℕ)
    → ((k : ℕ) → k < n → byte_there w rs hs k ≡ byte_there w rs ks k) → bytes_in w rs hs n ≡ bytes_in w rs ks n
bytes_same w rs hs ks n same =
    let long = bytes_long w rs hs n in
    ext_get_or 0 (bytes_in w rs hs n) (bytes_in w rs ks n) (long ∙ sym (bytes_long w rs ks n))
    (λ i less. (let low : i < n = omega (arith, less, long) in
    bytes_at w rs hs n i low ∙ same i low ∙ sym (bytes_at w rs ks n i low)))

-- The byte of a position that copies nothing, and of one that copies another.
pub own_byte : (hs : List (List Entry)) (position root step : ℕ) → root ≡ position
    → byte_by hs position root step ≡ byte_at (nth_track hs root) step
own_byte hs position root step is = rw (eq-eqb root position is) refl

pub copy_byte : (hs : List (List Entry)) (position root step : ℕ) → (root ≡ position → ⊥)
    → byte_by hs position root step ≡ copied_byte (byte_at (nth_track hs root) step)
copy_byte hs position root step other = rw (ne_eqb root position other) refl

-- It depends on the entries of what is copied alone, at the step.
byte_same : (hs ks : List (List Entry)) (position root step : ℕ)
    → byte_at (nth_track hs root) step ≡ byte_at (nth_track ks root) step
    → byte_by hs position root step ≡ byte_by ks position root step
byte_same hs ks position root step same =
    ap (λ byte. if root == position then byte else copied_byte byte) same

-- A byte that is put behind entries.
abbrev pub entry_at : ℕ → ℕ → Entry
entry_at step byte = record { step = step; byte = byte }

abbrev pub put_by : Bool → List Entry → ℕ → ℕ → List Entry
put_by again h step byte = if again then h else h ++ entry_at step byte ∷ []

earlier_by : (again : Bool) (h : List Entry) (step byte s : ℕ) → s < step
    → byte_at (put_by again h step byte) s ≡ byte_at h s
earlier_by true h step byte s less = refl
earlier_by false h step byte s less = at_earlier h (entry_at step byte) s less

here_by : (again : Bool) (h : List Entry) (step byte : ℕ) → AreBefore h step
    → (again ≡ true → (0 < step) × (byte ≡ repeated_byte (byte_at h (step - 1))))
    → byte_at (put_by again h step byte) step ≡ byte
here_by true h step byte before said =
    let some = (said refl).0 in
    let is : step - 1 + 1 ≡ step = omega (arith, some) in
    subst (λ n. byte_at h n ≡ byte) is (at_again h (step - 1)
    (λ i less same. (let low = before i less in omega (arith, low, same, some))) ∙ sym (said refl).1)
here_by false h step byte before said = at_here h (entry_at step byte) step refl

pub and_both : (a b : Bool) → (a && b) ≡ true → (a ≡ true) × (b ≡ true)
and_both true b is = (refl, is)
and_both false b is = cc

pub again_said : (h : List Entry) (step byte : ℕ) → is_again h step byte ≡ true
    → (0 < step) × (byte ≡ repeated_byte (byte_at h (step - 1)))
again_said h step byte is =
    let both = and_both (nat_lt 0 step) (byte == repeated_byte (byte_at h (step - 1))) is in
    (ltb-true 0 step both.0, eqb-true byte (repeated_byte (byte_at h (step - 1))) both.1)

put_earlier : (h : List Entry) (step byte s : ℕ) → s < step → byte_at (with_byte_at h step byte) s ≡ byte_at h s
put_earlier h step byte s less = earlier_by (is_again h step byte) h step byte s less

put_here : (h : List Entry) (step byte : ℕ) → AreBefore h step → byte_at (with_byte_at h step byte) step ≡ byte
put_here h step byte before = here_by (is_again h step byte) h step byte before (again_said h step byte)

-- Each entry is one that there was, or of that step.
below_by : (again : Bool) (h : List Entry) (step byte i n w p : ℕ)
    → ((i : ℕ) → i < length h → (nth_entry h i).step * w + p < n) → step * w + p < n
    → i < length (put_by again h step byte) → (nth_entry (put_by again h step byte) i).step * w + p < n
below_by true h step byte i n w p old new less = old i less
below_by false h step byte i n w p old new less = ⊎_elim
    (λ (low : i < length h). subst (λ (e : Entry). e.step * w + p < n)
    (sym (get_or-append h (entry_at step byte ∷ []) no_entry i low)) (old i low))
    (λ (up : length h ≤ i). (let long = length-append h (entry_at step byte ∷ []) in
    let last : i - length h ≡ 0 = omega (arith, less, long, up) in
    subst (λ (e : Entry). e.step * w + p < n)
    (sym (get_or-append_right h (entry_at step byte ∷ []) i no_entry up
    ∙ ap (λ k. nth_entry (entry_at step byte ∷ []) k) last)) new)) (cases_lt i (length h))

-- It is put at the next place.
abbrev pub put_next : List (List Entry) → Front → ℕ → List (List Entry)
put_next hs front byte =
    slice_set hs front.position (with_byte_at (nth_track hs front.position) front.step byte)

pub inside_width : (w count : ℕ) (front : Front) → 0 < w → IsFrontOf w count front → front.position < w
inside_width w count front some at = (let inside = at.inside in omega (arith, inside, some))

pub there_earlier : (w count byte : ℕ) (front : Front) (rs : List ℕ) (hs : List (List Entry)) → 0 < w
    → AreRoots w rs → length hs ≡ w → IsFrontOf w count front → (k : ℕ) → k < count
    → byte_there w rs (put_next hs front byte) k ≡ byte_there w rs hs k
there_earlier w count byte front rs hs some rooted long at k less =
    byte_same (put_next hs front byte) hs (k % w) root (k / w) (⊎_elim
    (λ (same : root ≡ p). ap (λ (h : List Entry). byte_at h (k / w)) (get_or-set_at hs p root y [] same
    (omega (arith, inside, long)))
    ∙ put_earlier (nth_track hs p) front.step byte (k / w) (before same)
    ∙ ap (λ q. byte_at (nth_track hs q) (k / w)) (sym same))
    (λ (other : root ≡ p → ⊥). ap (λ (h : List Entry). byte_at h (k / w))
    (get_or-set_other hs p root y [] other)) (cases_eq root p))
  where
    p : ℕ
    p = front.position

    root : ℕ
    root = nth_root rs (k % w)

    y : List Entry
    y = with_byte_at (nth_track hs p) front.step byte

    inside : p < w
    inside = inside_width w count front some at

    before : root ≡ p → k / w < front.step
    before same =
        let whole = at.whole in
        let here = whole_of w k some in
        let low = rooted.low (k % w) (mod-lt k some) in
        below_step w (k / w) front.step p (omega (arith, whole, here, same, low, less))

pub front_before : (w count : ℕ) (front : Front) (hs : List (List Entry)) → 0 < w → AreBelow w count hs
    → IsFrontOf w count front → AreBefore (nth_track hs front.position) front.step
front_before w count front hs some below at = λ i less.
    (let low = below front.position i (inside_width w count front some at) less in
    let whole = at.whole in
    below_step w (nth_entry (nth_track hs front.position) i).step front.step front.position
    (omega (arith, low, whole)))

pub there_next : (w count byte : ℕ) (front : Front) (rs : List ℕ) (hs : List (List Entry)) → 0 < w
    → nth_root rs front.position ≡ front.position → length hs ≡ w → AreBelow w count hs → IsFrontOf w count front
    → byte_there w rs (put_next hs front byte) count ≡ byte
there_next w count byte front rs hs some own long below at =
    let p = front.position in
    let inside = inside_width w count front some at in
    let stand = stands w front.step p count at.whole inside in
    let y = with_byte_at (nth_track hs p) front.step byte in
    ap (λ q. byte_by (put_next hs front byte) q (nth_root rs q) (count / w)) stand.1
    ∙ ap (byte_by (put_next hs front byte) p (nth_root rs p)) stand.0
    ∙ own_byte (put_next hs front byte) p (nth_root rs p) front.step own
    ∙ ap (λ (h : List Entry). byte_at h front.step) (get_or-set_at hs p (nth_root rs p) y [] own
    (omega (arith, inside, long)))
    ∙ put_here (nth_track hs p) front.step byte (front_before w count front hs some below at)

pub bytes_put : (w count byte : ℕ) (front : Front) (rs : List ℕ) (hs : List (List Entry)) → 0 < w
    → AreRoots w rs → nth_root rs front.position ≡ front.position → length hs ≡ w
    → AreBelow w count hs → IsFrontOf w count front
    → bytes_in w rs (put_next hs front byte) (count + 1) ≡ bytes_in w rs hs count ++ byte ∷ []
bytes_put w count byte front rs hs some rooted own long below at =
    bytes_more w rs (put_next hs front byte) count
    ∙ ap (λ b. bytes_in w rs (put_next hs front byte) count ++ b ∷ [])
    (there_next w count byte front rs hs some own long below at)
    ∙ ap (λ bs. bs ++ byte ∷ []) (bytes_same w rs (put_next hs front byte) hs count
    (there_earlier w count byte front rs hs some rooted long at))

pub below_put : (w count byte : ℕ) (front : Front) (hs : List (List Entry)) → 0 < w → length hs ≡ w
    → AreBelow w count hs → IsFrontOf w count front → AreBelow w (count + 1) (put_next hs front byte)
below_put w count byte front hs some long below at = λ position i low less. ⊎_elim
    (λ (same : position ≡ p). (let set = get_or-set_at hs p position y [] same (omega (arith, inside, long)) in
    subst (λ (h : List Entry). (nth_entry h i).step * w + position < count + 1) (sym set)
    (subst (λ q. (nth_entry y i).step * w + q < count + 1) (sym same)
    (below_by (is_again (nth_track hs p) front.step byte) (nth_track hs p) front.step byte i (count + 1) w p
    (λ i less. (let old = below p i inside less in omega (arith, old)))
    (let whole = at.whole in omega (arith, whole))
    (subst (λ (h : List Entry). i < length h) set less)))))
    (λ (other : position ≡ p → ⊥). (let set = get_or-set_other hs p position y [] other in
    subst (λ (h : List Entry). (nth_entry h i).step * w + position < count + 1) (sym set)
    (let old = below position i low (subst (λ (h : List Entry). i < length h) set less) in omega (arith, old))))
    (cases_eq position p)
  where
    p : ℕ
    p = front.position

    y : List Entry
    y = with_byte_at (nth_track hs p) front.step byte

    inside : p < w
    inside = inside_width w count front some at

-- Where so many places fit.
step_low : (w a t p : ℕ) → a * w + p < t * w → a < t
step_low w a t p less = ⊎_elim (λ (low : a < t). low)
    (λ (from : t ≤ a). absurd (no_less w t (a - t) 0
    (let more : (t + (a - t)) * w + p < t * w = subst (λ n. n * w + p < t * w) (omega (arith, from)) less in
    omega (arith, more)))) (cases_lt a t)

no_more : (w s d p : ℕ) → 0 < w → (s + 1 + d) * w + p ≤ s * w → ⊥
no_more w s d p some up = omega (arith, some, up)

step_within : (w s n : ℕ) (front : Front) → 0 < w → IsFrontOf w n front → n ≤ s * w → front.step ≤ s
step_within w s n front some at up = ⊎_elim
    (λ (far : s < front.step). absurd (no_more w s (front.step - (s + 1)) front.position some
    (let split : front.step ≡ s + 1 + (front.step - (s + 1)) = omega (arith, far) in
    subst (λ t. t * w + front.position ≤ s * w) split (let whole = at.whole in omega (arith, whole, up)))))
    (λ (low : front.step ≤ s). low) (cases_lt s front.step)

pub room_of : (w s n many : ℕ) (rs : List ℕ) (hs : List (List Entry)) (v : RowsView) → rows_of w s rs hs n ≡ v
    → HasRoom v many → n + many ≤ s * w
room_of w s n many rs hs v is room =
    let long = bytes_long w rs hs n in
    let up : length (bytes_in w rs hs n) + many ≤ s * w = subst (λ (v : RowsView). HasRoom v many) (sym is) room in
    omega (arith, long, up)

pub step_small : (w s n : ℕ) (front : Front) (rs : List ℕ) (hs : List (List Entry)) → AreRows w s n front rs hs
    → n + 1 ≤ s * w → front.step < 2 ^ 32
step_small w s n front rs hs rows up =
    let whole = rows.at.whole in
    let few = rows.few in
    let low = step_low w front.step s front.position (omega (arith, whole, up)) in
    omega (arith, low, few)

pub rows_put : (w s n byte : ℕ) (front next : Front) (rs : List ℕ) (hs : List (List Entry))
    → AreRows w s n front rs hs → n + 1 ≤ s * w → IsFrontOf w (n + 1) next
    → AreRows w s (n + 1) next rs (put_next hs front byte)
rows_put w s n byte front next rs hs rows up at =
    let some = some_width w s n (omega (arith, up)) in
    record {
      narrow = rows.narrow;
      few = rows.few;
      small = rows.small;
      room = up;
      at = at;
      step = step_within w s (n + 1) next some at up;
      rooted = rows.rooted;
      long = length-set hs front.position
          (with_byte_at (nth_track hs front.position) front.step byte) ∙ rows.long;
      below = below_put w n byte front hs some rows.long rows.below rows.at;
    }

-- Where places are as those a row before, written again.
pub stands_at : (w t q i : ℕ) (rs : List ℕ) (hs : List (List Entry)) → q < w → t * w + q ≡ i
    → byte_there w rs hs i ≡ byte_by hs q (nth_root rs q) t
stands_at w t q i rs hs low whole =
    let here = stands w t q i whole low in
    ap (λ p. byte_by hs p (nth_root rs p) (i / w)) here.1 ∙ ap (byte_by hs q (nth_root rs q)) here.0

pub row_back : (w u q i : ℕ) → (u + 1) * w + q ≡ i → u * w + q ≡ i - w
row_back w u q i whole = omega (arith, whole)

-- A position that copies nothing and has no entry at a step.
pub there_again : (w u q i : ℕ) (rs : List ℕ) (hs : List (List Entry)) → q < w → nth_root rs q ≡ q
    → (u + 1) * w + q ≡ i
    → ((k : ℕ) → k < length (nth_track hs q) → (nth_entry (nth_track hs q) k).step ≡ u + 1 → ⊥)
    → byte_there w rs hs i ≡ repeated_byte (byte_there w rs hs (i - w))
there_again w u q i rs hs low own whole none =
    stands_at w (u + 1) q i rs hs low whole ∙ own_byte hs q (nth_root rs q) (u + 1) own
    ∙ ap (λ p. byte_at (nth_track hs p) (u + 1)) own
    ∙ at_again (nth_track hs q) u none
    ∙ ap (λ p. repeated_byte (byte_at (nth_track hs p) u)) (sym own)
    ∙ ap repeated_byte (sym (own_byte hs q (nth_root rs q) u own)
    ∙ sym (stands_at w u q (i - w) rs hs low (row_back w u q i whole)))

-- One that copies another, which has what it had.
pub copy_again : (w u q i : ℕ) (rs : List ℕ) (hs : List (List Entry)) → q < w → (nth_root rs q ≡ q → ⊥)
    → (u + 1) * w + q ≡ i
    → copied_byte (byte_at (nth_track hs (nth_root rs q)) (u + 1))
    ≡ repeated_byte (copied_byte (byte_at (nth_track hs (nth_root rs q)) u))
    → byte_there w rs hs i ≡ repeated_byte (byte_there w rs hs (i - w))
copy_again w u q i rs hs low copy whole same =
    stands_at w (u + 1) q i rs hs low whole ∙ copy_byte hs q (nth_root rs q) (u + 1) copy ∙ same
    ∙ ap repeated_byte (sym (copy_byte hs q (nth_root rs q) u copy)
    ∙ sym (stands_at w u q (i - w) rs hs low (row_back w u q i whole)))

pub later_step : (w t p n : ℕ) → t * w + p ≡ n → p < w → w ≤ n → 0 < t
later_step w zero p n whole low more = omega (arith, whole, low, more)
later_step w (suc t) p n whole low more = omega arith

-- What is copied in a run has what it had, where it stands before the run, and in it.
abbrev pub AreRunCopies : ℕ → ℕ → ℕ → Front → List ℕ → List (List Entry) → Type 0
AreRunCopies w n many front rs hs = (k : ℕ) → k < many → nth_root rs (front.position + k) < front.position
    → copied_byte (byte_at (nth_track hs (nth_root rs (front.position + k))) front.step)
    ≡ repeated_byte (copied_byte (byte_at (nth_track hs (nth_root rs (front.position + k))) (front.step - 1)))

pub next_again : (w n k many : ℕ) (front : Front) (rs : List ℕ) (hs : List (List Entry)) → AreRoots w rs
    → AreBelow w n hs → IsFrontOf w n front → w ≤ n → front.position + many ≤ w → AreRunCopies w n many front rs hs → k < many
    → byte_there w rs hs (n + k) ≡ repeated_byte (byte_there w rs hs (n + k - w))
next_again w n k many front rs hs rooted below at later fits copied less = ⊎_elim
    (λ (own : root ≡ q). there_again w (front.step - 1) q (n + k) rs hs low own place
    (λ i inside same. none q low (omega arith) i inside (same ∙ sym back)))
    (λ (copy : root ≡ q → ⊥). copy_again w (front.step - 1) q (n + k) rs hs low copy place
    (subst (λ t. copied_byte (byte_at (nth_track hs root) t)
    ≡ repeated_byte (copied_byte (byte_at (nth_track hs root) (front.step - 1)))) back
    (⊎_elim (λ (early : root < front.position). copied k less early)
    (λ (there : front.position ≤ root). (
    let root_low = rooted.low q low in
    ap copied_byte (subst (λ t. byte_at (nth_track hs root) t
    ≡ repeated_byte (byte_at (nth_track hs root) (front.step - 1))) (sym back)
    (at_again (nth_track hs root) (front.step - 1)
    (λ i inside same. none root (omega (arith, root_low, low)) there i inside (same ∙ sym back))))
    ∙ copied_repeated (byte_at (nth_track hs root) (front.step - 1))))
    (cases_lt root front.position))))
    (cases_eq root q)
  where
    q : ℕ
    q = front.position + k

    root : ℕ
    root = nth_root rs q

    low : q < w
    low = omega (arith, fits, less)

    some : 0 < front.step
    some = later_step w front.step front.position n at.whole (omega (arith, fits, less)) later

    back : front.step ≡ front.step - 1 + 1
    back = omega (arith, some)

    place : (front.step - 1 + 1) * w + q ≡ n + k
    place = (let whole = at.whole in subst (λ t. t * w + q ≡ n + k) back (omega (arith, whole)))

    none : (p : ℕ) → p < w → front.position ≤ p → (i : ℕ) → i < length (nth_track hs p)
        → (nth_entry (nth_track hs p) i).step ≡ front.step → ⊥
    none p inside up i there same =
        let whole = at.whole in
        let old = below p i inside there in
        let here : front.step * w + p < n = subst (λ t. t * w + p < n) same old in
        omega (arith, here, whole, up)

pub bytes_again : (w n many : ℕ) (front : Front) (rs : List ℕ) (hs : List (List Entry)) → AreRoots w rs
    → AreBelow w n hs → IsFrontOf w n front
    → w ≤ n → front.position + many ≤ w → AreRunCopies w n many front rs hs → bytes_in w rs hs (n + many)
    ≡ bytes_in w rs hs n
    ++ map repeated_byte (take many (drop (length (bytes_in w rs hs n) - w) (bytes_in w rs hs n)))
bytes_again w n many front rs hs rooted below at later fits copied =
    ext_get_or 0 (bytes_in w rs hs (n + many)) (bs ++ map repeated_byte row) (more ∙ sym all)
    (λ i less. ⊎_elim (λ (low : i < n). first i low) (λ (up : n ≤ i). behind i up (omega (arith, less, more)))
    (cases_lt i n))
  where
    bs : List ℕ
    bs = bytes_in w rs hs n

    long : length bs ≡ n
    long = bytes_long w rs hs n

    more : length (bytes_in w rs hs (n + many)) ≡ n + many
    more = bytes_long w rs hs (n + many)

    row : List ℕ
    row = take many (drop (length bs - w) bs)

    row_long : length row ≡ many
    row_long = length-take-le many (drop (length bs - w) bs)
        (let dropped = length-drop (length bs - w) bs in omega (arith, dropped, long, later, fits))

    all : length (bs ++ map repeated_byte row) ≡ n + many
    all =
        let both = length-append bs (map repeated_byte row) in
        let mapped = length-map row repeated_byte in
        omega (arith, both, mapped, row_long, long)

    first : (i : ℕ) → i < n
        → slice_index_or (bytes_in w rs hs (n + many)) i 0 ≡ slice_index_or (bs ++ map repeated_byte row) i 0
    first i low = bytes_at w rs hs (n + many) i (omega (arith, low)) ∙ sym (bytes_at w rs hs n i low)
        ∙ sym (get_or-append bs (map repeated_byte row) 0 i (omega (arith, low, long)))

    behind : (i : ℕ) → n ≤ i → i < n + many
        → slice_index_or (bytes_in w rs hs (n + many)) i 0 ≡ slice_index_or (bs ++ map repeated_byte row) i 0
    behind i up less =
        let k : ℕ = i - length bs in
        let k_is : n + k ≡ i = omega (arith, up, long) in
        let k_low : k < many = omega (arith, up, less, long) in
        let back : length bs - w + k ≡ n + k - w = omega (arith, long, later) in
        bytes_at w rs hs (n + many) i less ∙ ap (byte_there w rs hs) (sym k_is)
        ∙ next_again w n k many front rs hs rooted below at later fits copied k_low
        ∙ ap repeated_byte (sym (bytes_at w rs hs n (n + k - w) (omega (arith, k_low, fits, later)))
        ∙ ap (λ m. slice_index_or bs m 0) (sym back)
        ∙ sym (get_or-drop (length bs - w) bs k 0)
        ∙ sym (get_or-take many (drop (length bs - w) bs) k 0 k_low))
        ∙ sym (get_or-map repeated_byte row k 0 0 (omega (arith, k_low, row_long)))
        ∙ sym (get_or-append_right bs (map repeated_byte row) i 0 (omega (arith, up, long)))

pub row_room : (w n many : ℕ) (front : Front) → IsFrontOf w n front → n + many ≤ (n / w + 1) * w
    → front.position + many ≤ w
row_room zero n many front at up =
    let inside = at.inside in
    omega (arith, inside, up)
row_room (suc w) n many front at up =
    let whole = at.whole in
    let inside : front.position < suc w = (let low = at.inside in omega (arith, low)) in
    rest_of (suc w) front.step front.position n many whole
    (subst (λ t. n + many ≤ (t + 1) * suc w) (stands (suc w) front.step front.position n whole inside).0 up)
  where
    rest_of : (w t p n many : ℕ) → t * w + p ≡ n → n + many ≤ (t + 1) * w → p + many ≤ w
    rest_of w t p n many whole up = omega (arith, whole, up)

pub rows_again : (w s n many : ℕ) (front next : Front) (rs : List ℕ) (hs : List (List Entry))
    → AreRows w s n front rs hs
    → n + many ≤ s * w → front.position + many ≤ w → IsFrontOf w (n + many) next → next.step ≤ front.step + many
    → AreRows w s (n + many) next rs hs
rows_again w s n many front next rs hs rows up fits at step_up = record {
  narrow = rows.narrow;
  few = rows.few;
  small = rows.small;
  room = up;
  at = at;
  step = ⊎_elim (λ (some : 0 < w). step_within w s (n + many) next some at up)
      (λ (none : w ≤ 0). (let low = rows.step in omega (arith, none, fits, step_up, low))) (cases_lt 0 w);
  rooted = rows.rooted;
  long = rows.long;
  below = λ position i low less. (let old = rows.below position i low less in omega (arith, old));
}

-- What is asked of rows, of what they hold.
pub stretch_later : (w s n many : ℕ) (rs : List ℕ) (hs : List (List Entry)) (v : RowsView) → rows_of w s rs hs n ≡ v
    → IsRowStretch v many → w ≤ n
stretch_later w s n many rs hs v is stretch =
    let long = bytes_long w rs hs n in
    let up : w ≤ length (bytes_in w rs hs n) =
    subst (λ (v : RowsView). v.width ≤ length v.bytes) (sym is) stretch.later in
    omega (arith, long, up)

pub stretch_row : (w s n many : ℕ) (front : Front) (rs : List ℕ) (hs : List (List Entry)) (v : RowsView)
    → rows_of w s rs hs n ≡ v → IsFrontOf w n front → IsRowStretch v many → front.position + many ≤ w
stretch_row w s n many front rs hs v is at stretch = row_room w n many front at
    (subst (λ n. n + many ≤ (n / w + 1) * w) (bytes_long w rs hs n)
    (subst (λ (v : RowsView). length v.bytes + many ≤ (length v.bytes / v.width + 1) * v.width) (sym is)
    stretch.one_row))

-- A place of the last two rows.
pub last_row : (w count number : ℕ) (front : Front) → IsFrontOf w count front → number < count
    → count - front.position ≤ number → number - (count - front.position) ≡ number % w
last_row w count number front at less from =
    let whole = at.whole in
    let inside = at.inside in
    sym (stands w front.step (number - (count - front.position)) number (omega (arith, whole, from, less))
    (omega (arith, inside, less, from))).1

back_suc : (w u number : ℕ) → number < (u + 1) * w → (u + 1) * w - number ≤ w
    → u * w + (w - ((u + 1) * w - number)) ≡ number
back_suc w u number less near = omega (arith, less, near)

some_step : (w t number : ℕ) → number < t * w → 0 < t
some_step w zero number less = omega (arith, less)
some_step w (suc t) number less = omega arith

one_back : (w t number : ℕ) → number < t * w → t * w - number ≤ w
    → (t - 1) * w + (w - (t * w - number)) ≡ number
one_back w t number less near =
    let some = some_step w t number less in
    let split : t ≡ t - 1 + 1 = omega (arith, some) in
    subst (λ m. (t - 1) * w + (w - (m * w - number)) ≡ number) (sym split)
    (back_suc w (t - 1) number (subst (λ m. number < m * w) split less)
    (subst (λ m. m * w - number ≤ w) split near))

pub row_before : (w count number : ℕ) (front : Front) → IsFrontOf w count front → number < count - front.position
    → count - front.position - number ≤ w → w - (count - front.position - number) ≡ number % w
row_before w count number front at less near =
    let whole = at.whole in
    let start : count - front.position ≡ front.step * w = omega (arith, whole) in
    let low : number < front.step * w = omega (arith, less, start) in
    subst (λ n. w - (n - number) ≡ number % w) (sym start)
    (sym (stands w (front.step - 1) (w - (front.step * w - number)) number
    (one_back w front.step number low (omega (arith, near, start))) (omega (arith, low, near, start))).1)

pub number_low : (w s n number : ℕ) (rs : List ℕ) (hs : List (List Entry)) (v : RowsView) → rows_of w s rs hs n ≡ v
    → number < length v.bytes → number < n
number_low w s n number rs hs v is less =
    let long = bytes_long w rs hs n in
    let low : number < length (bytes_in w rs hs n) =
    subst (λ (v : RowsView). number < length v.bytes) (sym is) less in
    omega (arith, long, low)
