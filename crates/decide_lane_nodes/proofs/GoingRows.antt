-- Rows of literals as they go on.
use Rattle.std.proofs.Common.{◌≡◌, ℕ, zero, suc, ◌+◌, ◌-◌, ◌*◌, ◌%◌, ◌<◌, ◌≤◌, List, [], ◌∷◌, ◌++◌, drop, length}
use Rattle.std.proofs.Common.{slice_index, slice_set, take, refl, sym, ap, ◌∙◌, arith, subst, ⊎_elim}
use Rattle.std.proofs.Common.{length-append, length-drop}
use Rattle.std.proofs.Math.ListN.{get_or-append}
use Rattle.std.proofs.Math.Seq.{drop-append_seam, drop-nil, get_or-append_right}
use Rattle.std.proofs.lemmas.Bool.{cases_eq, cases_lt}
use Rattle.std.proofs.lemmas.Grind.{get_or-set_at}
use Rattle.std.proofs.lemmas.List.{append-nil, append_assoc, drop-append-le, ext_get_or, get_or-drop, get_or-set_other}
use Rattle.std.proofs.lemmas.List.{get_or-take, length-set, length-take-le, take_all}
use Rattle.std.proofs.lemmas.Nat.{mod-mul-add}
use Rattle.decide_lane_nodes.specs.Literal.{LiteralView, no_literal}
use Rattle.decide_lane_nodes.specs.Rows.{AgreeBut, AreKept, Follows, IsMoved, IsOnward, IsTurned, RowsView, all_of}
use Rattle.decide_lane_nodes.specs.Rows.{last_row, nth_literal, rows_of}
use Rattle.decide_lane_nodes.specs.declared.rows.Kept.{Kept}

-- A row becomes the next one, position by position.
pub followed_one : (before row now : List LiteralView) (moved : List ℕ) (k : ℕ) → length now ≡ length row
    → k < length moved → slice_index moved k < length row → AgreeBut now row moved k
    → AgreeBut (slice_set now (slice_index moved k) (nth_literal row (slice_index moved k))) row moved (k + 1)
followed_one before row now moved k long low inside agree = λ position none. ⊎_elim
    (λ (here : position ≡ p). get_or-set_at now p position (nth_literal row p) no_literal here
    (omega (arith, here, inside, long)) ∙ ap (nth_literal row) (sym here))
    (λ (other : position ≡ p → ⊥). get_or-set_other now p position (nth_literal row p) no_literal other
    ∙ agree position (λ i from less is. ⊎_elim
    (λ (same : i ≡ k). other (sym is ∙ ap (slice_index moved) same))
    (λ (more : i ≡ k → ⊥). none i (omega (arith, from, more)) less is) (cases_eq i k)))
    (cases_eq position p)
  where
    p : ℕ
    p = slice_index moved k

pub followed : (row now : List LiteralView) (moved : List ℕ) (k : ℕ) → length now ≡ length row → length moved ≤ k
    → AgreeBut now row moved k → now ≡ row
followed row now moved k long all agree =
    ext_get_or no_literal now row long (λ p less. agree p (λ i from low is. omega (arith, from, low, all)))

-- A row follows itself.
pub follows_itself : (row : List LiteralView) → Follows row row []
follows_itself row = record {
  long = refl;
  inside = λ i less. absurd (omega (arith, less));
  agree = λ position none. refl;
}

-- A row follows still once a literal is put.
put_same : (row : List LiteralView) (position : ℕ) (literal : LiteralView) → position < length row
    → nth_literal row position ≡ literal → slice_set row position literal ≡ row
put_same row position literal less is =
    ext_get_or no_literal (slice_set row position literal) row (length-set row position literal)
    (λ p low. ⊎_elim
    (λ (here : p ≡ position). get_or-set_at row position p literal no_literal here less ∙ sym is
    ∙ ap (nth_literal row) (sym here))
    (λ (other : p ≡ position → ⊥). get_or-set_other row position p literal no_literal other) (cases_eq p position))

put_moved : (before row : List LiteralView) (moved : List ℕ) (position : ℕ) (literal : LiteralView)
    → position < length row → Follows before row moved
    → Follows before (slice_set row position literal) (moved ++ position ∷ [])
put_moved before row moved position literal less is = record {
  long = is.long ∙ sym (length-set row position literal);
  inside = λ i low. ⊎_elim
      (λ (old : i < length moved). (let same = get_or-append moved (position ∷ []) 0 i old in
      let inside = is.inside i old in let long = length-set row position literal in omega (arith, same, inside, long)))
      (λ (up : length moved ≤ i). (let same = last i low up in let long = length-set row position literal in
      omega (arith, same, less, long)))
      (cases_lt i (length moved));
  agree = λ p none. (let other : p ≡ position → ⊥ = (λ here. none (length moved) (omega arith)
      (let long = length-append moved (position ∷ []) in omega (arith, long))
      (last (length moved) (let long = length-append moved (position ∷ []) in omega (arith, long)) (omega arith) ∙ sym here)) in
      is.agree p (λ i from low here. none i (omega arith)
      (let long = length-append moved (position ∷ []) in omega (arith, long, low))
      (get_or-append moved (position ∷ []) 0 i low ∙ here))
      ∙ sym (get_or-set_other row position p literal no_literal other));
}
  where
    last : (i : ℕ) → i < length (moved ++ position ∷ []) → length moved ≤ i
        → slice_index (moved ++ position ∷ []) i ≡ position
    last i low up = get_or-append_right moved (position ∷ []) i 0 up
        ∙ ap (λ k. slice_index (position ∷ []) k) (let long = length-append moved (position ∷ []) in
        let none : i - length moved ≡ 0 = omega (arith, low, long, up) in none)

pub put_follows : (before row : List LiteralView) (position : ℕ) (literal : LiteralView) (old new : List ℕ)
    → position < length row → IsMoved row position literal old new → Follows before row old
    → Follows before (slice_set row position literal) new
put_follows before row position literal old new less moved is = ⊎_elim
    (λ (same : (nth_literal row position ≡ literal) × (new ≡ old)).
    subst (λ (ms : List ℕ). Follows before (slice_set row position literal) ms) (sym same.1)
    (subst (λ (r : List LiteralView). Follows before r old) (sym (put_same row position literal less same.0)) is))
    (λ (more : new ≡ old ++ position ∷ []).
    subst (λ (ms : List ℕ). Follows before (slice_set row position literal) ms) (sym more)
    (put_moved before row old position literal less is))
    moved

-- The positions that have moved stay below the next one.
pub put_below : (row : List LiteralView) (position : ℕ) (literal : LiteralView) (old new : List ℕ)
    → IsMoved row position literal old new → ((i : ℕ) → i < length old → slice_index old i < position)
    → (i : ℕ) → i < length new → slice_index new i < position + 1
put_below row position literal old new moved below = ⊎_elim
    (λ (same : (nth_literal row position ≡ literal) × (new ≡ old)).
    subst (λ (ms : List ℕ). (i : ℕ) → i < length ms → slice_index ms i < position + 1) (sym same.1)
    (λ i less. (let b = below i less in omega (arith, b))))
    (λ (more : new ≡ old ++ position ∷ []).
    subst (λ (ms : List ℕ). (i : ℕ) → i < length ms → slice_index ms i < position + 1) (sym more)
    (λ i less. ⊎_elim
    (λ (low : i < length old). (let same = get_or-append old (position ∷ []) 0 i low in let b = below i low in
    omega (arith, same, b)))
    (λ (up : length old ≤ i). (let long = length-append old (position ∷ []) in
    let none : i - length old ≡ 0 = omega (arith, less, long, up) in
    let same = get_or-append_right old (position ∷ []) i 0 up ∙ ap (λ k. slice_index (position ∷ []) k) none in
    omega (arith, same)))
    (cases_lt i (length old))))
    moved

-- The literals of the row under way with one more.
pub take_put : (row : List LiteralView) (position : ℕ) (literal : LiteralView) → position < length row
    → take (position + 1) (slice_set row position literal) ≡ take position row ++ literal ∷ []
take_put [] position literal less = absurd (omega (arith, less))
take_put (x ∷ row) zero literal less = refl
take_put (x ∷ row) (suc p) literal less =
    ap (λ n. take n (x ∷ slice_set row p literal)) (let next : suc p + 1 ≡ suc (p + 1) = omega arith in next)
    ∙ ap (λ (ls : List LiteralView). x ∷ ls) (take_put row p literal (omega (arith, less)))

-- How long rows are.
abbrev pub front_of : Kept → List LiteralView
front_of kept = kept.three.items ++ kept.two.items ++ kept.one.items

front_long : (w : ℕ) (kept : Kept) → AreKept w kept → length (front_of kept) ≡ 3 * w
front_long w kept are =
    let a = length-append (kept.three.items ++ kept.two.items) kept.one.items in
    let b = length-append kept.three.items kept.two.items in
    let two = are.two.long in
    let one = are.one.long in
    let row = are.row.long in
    let long = are.long in
    omega (arith, a, b, two, one, row, long)

all_long : (w p : ℕ) (kept : Kept) → AreKept w kept → p ≤ w → length (all_of kept p) ≡ 3 * w + p
all_long w p kept are up =
    let a = length-append (front_of kept) (take p kept.row.items) in
    let front = front_long w kept are in
    let long = are.long in
    let part = length-take-le p kept.row.items (omega (arith, long, up)) in
    omega (arith, a, front, part)

-- The rows that are left out, and the others.
left_out : (w whole : ℕ) → whole ≤ 3 → (3 - whole) * w + whole * w ≡ 3 * w
left_out w whole few =
    let sum : 3 - whole + whole ≡ 3 = omega (arith, few) in
    let apart : (3 - whole) * w + whole * w ≡ (3 - whole + whole) * w = omega arith in
    apart ∙ ap (λ n. n * w) sum

pub rows_long : (w whole p : ℕ) (kept : Kept) → AreKept w kept → whole ≤ 3 → p ≤ w
    → length (rows_of w whole p kept).literals ≡ whole * w + p
rows_long w whole p kept are few up =
    let all = all_long w p kept are up in
    let cut = left_out w whole few in
    let long = length-drop ((3 - whole) * w) (all_of kept p) in
    omega (arith, all, cut, long)

pub rows_position : (w whole p : ℕ) (kept : Kept) → AreKept w kept → whole ≤ 3 → p < w
    → length (rows_of w whole p kept).literals % w ≡ p
rows_position w whole p kept are few less =
    ap (λ n. n % w) (rows_long w whole p kept are few (omega (arith, less))) ∙ mod-mul-add whole w p less

-- A literal by its number.
front_same : (xs fs bs : List LiteralView)
    → ((k : ℕ) → k < length fs → nth_literal fs k ≡ nth_literal bs k)
    → (k : ℕ) → k < length (xs ++ fs) → nth_literal (xs ++ fs) k ≡ nth_literal (xs ++ bs) k
front_same xs fs bs same k less = ⊎_elim
    (λ (low : k < length xs). get_or-append xs fs no_literal k low ∙ sym (get_or-append xs bs no_literal k low))
    (λ (up : length xs ≤ k). (let long = length-append xs fs in
    get_or-append_right xs fs k no_literal up ∙ same (k - length xs) (omega (arith, less, long, up))
    ∙ sym (get_or-append_right xs bs k no_literal up)))
    (cases_lt k (length xs))

pub number_in : (w whole p : ℕ) (kept : Kept) (number : ℕ) → AreKept w kept → whole ≤ 3 → p ≤ w
    → number < length (rows_of w whole p kept).literals → number + (3 - whole) * w < 4 * w
number_in w whole p kept number are few up less =
    let long = rows_long w whole p kept are few up in
    let cut = left_out w whole few in
    omega (arith, less, long, cut, up)

pub literal_there : (w whole p : ℕ) (kept : Kept) (number : ℕ) → AreKept w kept → whole ≤ 3 → p ≤ w
    → number < length (rows_of w whole p kept).literals
    → nth_literal (kept.three.items ++ kept.two.items ++ kept.one.items ++ kept.row.items) (number + (3 - whole) * w)
    ≡ nth_literal (rows_of w whole p kept).literals number
literal_there w whole p kept number are few up less =
    let long = rows_long w whole p kept are few up in
    let cut = left_out w whole few in
    let all = all_long w p kept are up in
    let swapped : (3 - whole) * w + number ≡ number + (3 - whole) * w = omega arith in
    sym (get_or-drop ((3 - whole) * w) (all_of kept p) number no_literal
    ∙ ap (nth_literal (all_of kept p)) swapped
    ∙ front_same (front_of kept) (take p kept.row.items) kept.row.items
    (λ k low. (let row = are.long in let part = length-take-le p kept.row.items (omega (arith, row, up)) in
    get_or-take p kept.row.items k no_literal (omega (arith, low, part))))
    (number + (3 - whole) * w) (omega (arith, less, long, cut, all)))

-- The row under way goes on.
pub rows_on : (w whole p m : ℕ) (old mid : Kept) (more : List LiteralView) → AreKept w old → whole ≤ 3 → p ≤ w
    → front_of mid ≡ front_of old → take (p + m) mid.row.items ≡ take p old.row.items ++ more
    → (rows_of w whole (p + m) mid).literals ≡ (rows_of w whole p old).literals ++ more
rows_on w whole p m old mid more are few up front row =
    ap (λ (ls : List LiteralView). drop ((3 - whole) * w) (ls ++ take (p + m) mid.row.items)) front
    ∙ ap (λ (ls : List LiteralView). drop ((3 - whole) * w) (front_of old ++ ls)) row
    ∙ ap (drop ((3 - whole) * w)) (sym (append_assoc (front_of old) (take p old.row.items) more))
    ∙ drop-append-le ((3 - whole) * w) (all_of old p) more
    (let all = all_long w p old are up in let cut = left_out w whole few in omega (arith, all, cut))

-- A whole row is turned.
pub turned_all : (w : ℕ) (old new : Kept) → AreKept w old → IsTurned old new
    → drop w (all_of old w) ≡ all_of new 0
turned_all w old new are turned =
    let long : length old.three.items ≡ w = (let two = are.two.long in let one = are.one.long in let row = are.row.long in
    let last = are.long in omega (arith, two, one, row, last)) in
    ap (λ (ls : List LiteralView). drop w (front_of old ++ ls)) (take_all w old.row.items (let last = are.long in omega (arith, last)))
    ∙ ap (drop w) (append_assoc (old.three.items ++ old.two.items) old.one.items old.row.items
    ∙ append_assoc old.three.items old.two.items (old.one.items ++ old.row.items))
    ∙ ap (λ n. drop n (old.three.items ++ (old.two.items ++ (old.one.items ++ old.row.items)))) (sym long)
    ∙ drop-append_seam old.three.items (old.two.items ++ (old.one.items ++ old.row.items))
    ∙ sym (append_assoc old.two.items old.one.items old.row.items)
    ∙ sym (ap (λ (ls : List LiteralView). ls ++ new.two.items ++ new.one.items ++ take 0 new.row.items) turned.three
    ∙ ap (λ (ls : List LiteralView). old.two.items ++ ls ++ new.one.items ++ take 0 new.row.items) turned.two
    ∙ ap (λ (ls : List LiteralView). old.two.items ++ old.one.items ++ ls ++ take 0 new.row.items) turned.one
    ∙ append-nil (old.two.items ++ old.one.items ++ old.row.items))

drop_twice : (n m : ℕ) (ls : List LiteralView) → drop n (drop m ls) ≡ drop (m + n) ls
drop_twice n zero ls = ap (λ k. drop k ls) (let none : n ≡ 0 + n = omega arith in none)
drop_twice n (suc m) [] = drop-nil n ∙ sym (drop-nil (suc m + n))
drop_twice n (suc m) (l ∷ ls) = drop_twice n m ls
    ∙ ap (λ k. drop k (l ∷ ls)) (let next : suc (m + n) ≡ suc m + n = omega arith in next)

-- A row less is left out, while there are fewer than three whole ones.
pub turned_more : (w whole : ℕ) (old new : Kept) → AreKept w old → IsTurned old new → whole < 3
    → (rows_of w (whole + 1) 0 new).literals ≡ (rows_of w whole w old).literals
turned_more w whole old new are turned less =
    ap (drop ((3 - (whole + 1)) * w)) (sym (turned_all w old new are turned))
    ∙ drop_twice ((3 - (whole + 1)) * w) w (all_of old w)
    ∙ ap (λ k. drop k (all_of old w))
    (let one : 3 - whole ≡ 3 - (whole + 1) + 1 = omega (arith, less) in
    let is : (3 - (whole + 1) + 1) * w ≡ w + (3 - (whole + 1)) * w = omega arith in
    sym is ∙ ap (λ n. n * w) (sym one))

-- Else the first row goes.
pub turned_full : (w whole : ℕ) (old new : Kept) → AreKept w old → IsTurned old new → whole ≡ 3
    → (rows_of w whole 0 new).literals ≡ drop w (rows_of w whole w old).literals
turned_full w whole old new are turned is =
    ap (λ n. drop ((3 - n) * w) (all_of new 0)) is
    ∙ ap (λ k. drop k (all_of new 0)) (none w)
    ∙ sym (turned_all w old new are turned)
    ∙ ap (λ k. drop w (drop k (all_of old w))) (sym (none w))
    ∙ ap (λ n. drop w (drop ((3 - n) * w) (all_of old w))) (sym is)
  where
    none : (w : ℕ) → (3 - 3) * w ≡ 0
    none w = omega arith

-- Where a row goes on as it is, its literals are those of the row before.
pub take_on : (w whole p m : ℕ) (kept : Kept) → AreKept w kept → whole ≤ 3 → 0 < whole → p + m ≤ w
    → ((i : ℕ) → i < length kept.moved.items → slice_index kept.moved.items i < p)
    → take (p + m) kept.row.items ≡ take p kept.row.items ++ last_row (rows_of w whole p kept) m
take_on w whole p m kept are few some fits below =
    ext_get_or no_literal (take (p + m) kept.row.items) (take p kept.row.items ++ part) (long_here ∙ sym long_there)
    (λ i less. ⊎_elim
    (λ (low : i < p). get_or-take (p + m) kept.row.items i no_literal (omega (arith, low))
    ∙ sym (get_or-append (take p kept.row.items) part no_literal i (omega (arith, low, taken))
    ∙ get_or-take p kept.row.items i no_literal low))
    (λ (up : p ≤ i). (let in_row : i < p + m = omega (arith, less, long_here) in
    let wide : i < w = omega (arith, in_row, fits) in
    get_or-take (p + m) kept.row.items i no_literal in_row
    ∙ sym (are.row.agree i (λ k from low same. (let b = below k low in omega (arith, b, same, up))))
    ∙ sym (get_or-append_right (take p kept.row.items) part i no_literal (omega (arith, up, taken))
    ∙ ap (nth_literal part) (let back : i - length (take p kept.row.items) ≡ i - p = omega (arith, taken) in back)
    ∙ get_or-take m (drop (length v - w) v) (i - p) no_literal (omega (arith, in_row, up))
    ∙ get_or-drop (length v - w) v (i - p) no_literal
    ∙ get_or-drop ((3 - whole) * w) (all_of kept p) (length v - w + (i - p)) no_literal
    ∙ ap (nth_literal (all_of kept p)) (let at : (3 - whole) * w + (length v - w + (i - p)) ≡ 2 * w + i =
    omega (arith, v_long, cut, more, up) in at)
    ∙ get_or-append (front_of kept) (take p kept.row.items) no_literal (2 * w + i) (omega (arith, front, wide))
    ∙ get_or-append_right (kept.three.items ++ kept.two.items) kept.one.items (2 * w + i) no_literal (omega (arith, two))
    ∙ ap (nth_literal kept.one.items) (let at : 2 * w + i - length (kept.three.items ++ kept.two.items) ≡ i =
    omega (arith, two) in at))))
    (cases_lt i p))
  where
    v : List LiteralView
    v = (rows_of w whole p kept).literals

    part : List LiteralView
    part = last_row (rows_of w whole p kept) m

    v_long : length v ≡ whole * w + p
    v_long = rows_long w whole p kept are few (omega (arith, fits))

    cut : (3 - whole) * w + whole * w ≡ 3 * w
    cut = left_out w whole few

    more : w ≤ whole * w
    more = some_rows whole w some
      where
        some_rows : (n w : ℕ) → 0 < n → w ≤ n * w
        some_rows zero w none = omega (arith, none)
        some_rows (suc n) w some = omega arith

    taken : length (take p kept.row.items) ≡ p
    taken = length-take-le p kept.row.items (let long = are.long in omega (arith, long, fits))

    front : length (front_of kept) ≡ 3 * w
    front = front_long w kept are

    two : length (kept.three.items ++ kept.two.items) ≡ 2 * w
    two =
        let a = length-append kept.three.items kept.two.items in
        let b = are.two.long in
        let c = are.one.long in
        let d = are.row.long in
        let e = are.long in
        omega (arith, a, b, c, d, e)

    long_here : length (take (p + m) kept.row.items) ≡ p + m
    long_here = length-take-le (p + m) kept.row.items (let long = are.long in omega (arith, long, fits))

    long_there : length (take p kept.row.items ++ part) ≡ p + m
    long_there =
        let a = length-append (take p kept.row.items) part in
        let dropped = length-drop (length v - w) v in
        let b = length-take-le m (drop (length v - w) v) (omega (arith, dropped, v_long, more, fits)) in
        omega (arith, a, taken, b)

pub some_whole : (w whole p : ℕ) → w ≤ whole * w + p → p < w → 0 < whole
some_whole w zero p up less = omega (arith, up, less)
some_whole w (suc whole) p up less = omega arith

-- So rows with a literal more are kept.
pub kept_put : (w position : ℕ) (literal : LiteralView) (old new : Kept) → AreKept w old → position < w
    → front_of new ≡ front_of old → new.three.items ≡ old.three.items → new.two.items ≡ old.two.items
    → new.one.items ≡ old.one.items → new.moved_two.items ≡ old.moved_two.items
    → new.moved_one.items ≡ old.moved_one.items → new.row.items ≡ slice_set old.row.items position literal
    → IsMoved old.row.items position literal old.moved.items new.moved.items → AreKept w new
kept_put w position literal old new are less front three two one moved_two moved_one row moved = record {
  long = ap length row ∙ length-set old.row.items position literal ∙ are.long;
  two = rw (three, two, moved_two) are.two;
  one = rw (two, one, moved_one) are.one;
  row = subst (λ (ls : List LiteralView). Follows new.one.items ls new.moved.items) (sym row)
      (subst (λ (ls : List LiteralView). Follows ls (slice_set old.row.items position literal) new.moved.items) (sym one)
      (put_follows old.one.items old.row.items position literal old.moved.items new.moved.items
      (let long = are.long in omega (arith, long, less)) moved are.row));
}

-- Rows go on: in the row under way, with a row more, and where the first row goes.
pub onward_row : (w whole p m : ℕ) (old mid : Kept) (v : RowsView) (more : List LiteralView)
    → rows_of w whole p old ≡ v → AreKept w old → whole ≤ 3 → p ≤ w → front_of mid ≡ front_of old
    → take (p + m) mid.row.items ≡ take p old.row.items ++ more → IsOnward v (rows_of w whole (p + m) mid) more 0
onward_row w whole p m old mid v more is are few up front row = record {
  width = ap (λ (v : RowsView). v.width) is;
  literals = rows_on w whole p m old mid more are few up front row ∙ ap (λ (v : RowsView). v.literals ++ more) is;
  enough = λ some. absurd (omega (arith, some));
}

pub onward_more : (w whole p m : ℕ) (old mid new : Kept) (v : RowsView) (more : List LiteralView)
    → rows_of w whole p old ≡ v → AreKept w old → AreKept w mid → whole < 3 → p + m ≡ w
    → front_of mid ≡ front_of old → take (p + m) mid.row.items ≡ take p old.row.items ++ more → IsTurned mid new
    → IsOnward v (rows_of w (whole + 1) 0 new) more 0
onward_more w whole p m old mid new v more is are kept less whole_row front row turned = record {
  width = ap (λ (v : RowsView). v.width) is;
  literals = turned_more w whole mid new kept turned less
      ∙ ap (λ n. (rows_of w whole n mid).literals) (sym whole_row)
      ∙ rows_on w whole p m old mid more are (omega (arith, less)) (omega (arith, whole_row)) front row
      ∙ ap (λ (v : RowsView). v.literals ++ more) is;
  enough = λ some. absurd (omega (arith, some));
}

pub onward_full : (w whole p m : ℕ) (old mid new : Kept) (v : RowsView) (more : List LiteralView)
    → rows_of w whole p old ≡ v → AreKept w old → AreKept w mid → whole ≡ 3 → p + m ≡ w
    → front_of mid ≡ front_of old → take (p + m) mid.row.items ≡ take p old.row.items ++ more → IsTurned mid new
    → IsOnward v (rows_of w whole 0 new) more w
onward_full w whole p m old mid new v more is are kept three whole_row front row turned = record {
  width = ap (λ (v : RowsView). v.width) is;
  literals = turned_full w whole mid new kept turned three ∙ ap (drop w) all;
  enough = λ some. (let long = rows_long w whole w mid kept (omega (arith, three)) (omega arith) in
      let same = ap length all in let width = ap (λ (v : RowsView). v.width) is in
      let rows : whole * w ≡ 3 * w = ap (λ n. n * w) three in
      omega (arith, long, same, width, rows));
}
  where
    all : (rows_of w whole w mid).literals ≡ v.literals ++ more
    all = ap (λ n. (rows_of w whole n mid).literals) (sym whole_row)
        ∙ rows_on w whole p m old mid more are (omega (arith, three)) (omega (arith, whole_row)) front row
        ∙ ap (λ (v : RowsView). v.literals ++ more) is
