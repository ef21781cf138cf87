-- Places that are noted as written anew.
use Rattle.std.proofs.Common.{◌≡◌, ◌⊎◌, ℕ, zero, suc, ◌+◌, ◌-◌, ◌<◌, ◌≤◌, ◌==◌, Bool, true, false, List, [], ◌∷◌, ◌++◌}
use Rattle.std.proofs.Common.{drop, if◌then◌else◌, length, nat_lt, refl, slice_index_or, sym, take, ap, ◌∙◌, arith, inl}
use Rattle.std.proofs.Common.{inr, subst, ⊎_elim, length-append, length-drop}
use Rattle.std.proofs.Math.ListN.{get_or-append}
use Rattle.std.proofs.Math.Seq.{get_or-append_right}
use Rattle.std.proofs.lemmas.Bool.{cases_eq, cases_lt, le-ltb, lt-ltb, ne_eqb}
use Rattle.std.proofs.lemmas.List.{get_or-drop, get_or-take, length-take-le}
use Rattle.wave_bytes.specs.Anew.{anew_byte, anew_number, no_anew, nth_anew, number_behind, number_next}
use Rattle.wave_bytes.specs.Byte.{repeated_byte}
use Rattle.wave_bytes.specs.Track.{with_noted}
use Rattle.wave_bytes.specs.Rows.{AreAgain, AreAnewBetween, AreNoted, IsNoted, IsWrittenAgain, byte_there, bytes_in, rows_of}
use Rattle.wave_bytes.specs.declared.anew.Anew.{Anew}
use Rattle.wave_bytes.specs.declared.track.Entry.{Entry}
use Rattle.wave_bytes.proofs.RowPlaces.{bytes_at}

-- The places of a log with one more.
log_front : (log : List Anew) (place : Anew) (i : ℕ) → i < length log → nth_anew (log ++ place ∷ []) i ≡ nth_anew log i
log_front log place i low = get_or-append log (place ∷ []) no_anew i low

log_last : (log : List Anew) (place : Anew) (i : ℕ) → i ≡ length log → nth_anew (log ++ place ∷ []) i ≡ place
log_last log place i here = get_or-append_right log (place ∷ []) i no_anew (omega (arith, here))
    ∙ ap (λ k. nth_anew (place ∷ []) k) (let none : i - length log ≡ 0 = omega (arith, here) in none)

rising_by : (again : Bool) (n : ℕ) (place : Anew) (log : List Anew) → anew_number place ≡ n
    → ((i k : ℕ) → i < k → k < length log → anew_number (nth_anew log i) < anew_number (nth_anew log k))
    → ((i : ℕ) → i < length log → anew_number (nth_anew log i) < n)
    → (i k : ℕ) → i < k → k < length (with_noted log place again)
    → anew_number (nth_anew (with_noted log place again) i) < anew_number (nth_anew (with_noted log place again) k)
rising_by true n place log is rising reached i k less low = rising i k less low
rising_by false n place log is rising reached i k less low = ⊎_elim
    (λ (old : k < length log). subst (λ (a : Anew). anew_number a < anew_number (nth_anew (log ++ place ∷ []) k))
    (sym (log_front log place i (omega (arith, less, old))))
    (subst (λ (b : Anew). anew_number (nth_anew log i) < anew_number b) (sym (log_front log place k old))
    (rising i k less old)))
    (λ (up : length log ≤ k). (let long = length-append log (place ∷ []) in
    let here : k ≡ length log = omega (arith, low, long, up) in
    let i_low : i < length log = omega (arith, here, less) in
    subst (λ (a : Anew). anew_number a < anew_number (nth_anew (log ++ place ∷ []) k))
    (sym (log_front log place i i_low))
    (subst (λ (b : Anew). anew_number (nth_anew log i) < anew_number b) (sym (log_last log place k here))
    (subst (λ m. anew_number (nth_anew log i) < m) (sym is) (reached i i_low)))))
    (cases_lt k (length log))

-- What is true of each place of a log, and of one more.
each_by : (again : Bool) (place : Anew) (log : List Anew) (P : Anew → Type 0)
    → ((i : ℕ) → i < length log → P (nth_anew log i)) → P place
    → (i : ℕ) → i < length (with_noted log place again) → P (nth_anew (with_noted log place again) i)
each_by true place log P old new i low = old i low
each_by false place log P old new i low = ⊎_elim
    (λ (front : i < length log). subst P (sym (log_front log place i front)) (old i front))
    (λ (up : length log ≤ i). (let long = length-append log (place ∷ []) in
    subst P (sym (log_last log place i (omega (arith, low, long, up)))) new))
    (cases_lt i (length log))

-- The next place is noted, unless its byte is the one a row before, written again.
noted_by : (again : Bool) (place : Anew) (log : List Anew) (k : ℕ) → IsNoted log k → IsNoted (with_noted log place again) k
noted_by true place log k is = is
noted_by false place log k is =
    let long = length-append log (place ∷ []) in
    let low = is.1 in
    (is.0, omega (arith, low, long), ap anew_number (log_front log place is.0 is.1) ∙ is.2)

last_by : (again : Bool) (n : ℕ) (place : Anew) (log : List Anew) (IsRepeated : Type 0) → anew_number place ≡ n
    → (again ≡ true → IsRepeated) → IsNoted (with_noted log place again) n ⊎ IsRepeated
last_by true n place log IsRepeated is said = inr (said refl)
last_by false n place log IsRepeated is said =
    let long = length-append log (place ∷ []) in
    inl (length log, omega (arith, long), ap anew_number (log_last log place (length log) (omega arith)) ∙ is)

-- Places more: those that were there have the bytes that they had, and the last one has a byte.
pub noted_more : (w n byte : ℕ) (rs : List ℕ) (old new : List (List Entry)) (place : Anew) (log : List Anew)
    (again : Bool) → 0 < w
    → ((k : ℕ) → k < n → byte_there w rs new k ≡ byte_there w rs old k) → byte_there w rs new n ≡ byte
    → anew_number place ≡ n → anew_byte place ≡ byte → (again ≡ true → w ≤ n → IsWrittenAgain w rs new n)
    → AreNoted w n rs old log → AreNoted w (n + 1) rs new (with_noted log place again)
noted_more w n byte rs old new place log again some same last number_is byte_is said is = record {
  rising = rising_by again n place log number_is is.rising is.reached;
  reached = each_by again place log (λ (a : Anew). anew_number a < n + 1)
      (λ i low. (let old = is.reached i low in omega (arith, old))) (omega (arith, number_is));
  bytes = each_by again place log (λ (a : Anew). anew_byte a ≡ byte_there w rs new (anew_number a))
      (λ i low. is.bytes i low ∙ sym (same (anew_number (nth_anew log i)) (is.reached i low)))
      (byte_is ∙ sym last ∙ ap (byte_there w rs new) (sym number_is));
  noted = λ k later less. ⊎_elim
      (λ (here : k ≡ n). subst (λ m. IsNoted (with_noted log place again) m ⊎ IsWrittenAgain w rs new m) (sym here)
      (last_by again n place log (IsWrittenAgain w rs new n) number_is
      (λ on. said on (omega (arith, here, later)))))
      (λ (other : k ≡ n → ⊥). ⊎_elim
      (λ (found : IsNoted log k). inl (noted_by again place log k found))
      (λ (repeats : IsWrittenAgain w rs old k). inr (same k (omega (arith, less, other)) ∙ repeats
      ∙ ap repeated_byte (sym (same (k - w) (omega (arith, less, other, some, later))))))
      (is.noted k later (omega (arith, less, other))))
      (cases_eq k n);
}

-- So many places more, none of them noted.
pub noted_on : (w n many : ℕ) (rs : List ℕ) (ts : List (List Entry)) (log : List Anew)
    → ((k : ℕ) → k < many → IsWrittenAgain w rs ts (n + k)) → AreNoted w n rs ts log → AreNoted w (n + many) rs ts log
noted_on w n many rs ts log again is = record {
  rising = is.rising;
  reached = λ i low. (let old = is.reached i low in omega (arith, old));
  bytes = is.bytes;
  noted = λ k later less. ⊎_elim (λ (low : k < n). is.noted k later low)
      (λ (up : n ≤ k). inr (subst (IsWrittenAgain w rs ts) (omega (arith, up)) (again (k - n) (omega (arith, up, less)))))
      (cases_lt k n);
}

-- Between two neighbours of the log no place is written anew.
pub again_between : (w s n number count end : ℕ) (rs : List ℕ) (ts : List (List Entry)) (log : List Anew)
    → AreNoted w n rs ts log → end ≤ n
    → (0 < count → anew_number (nth_anew log (count - 1)) < number) → count ≤ length log
    → (count < length log → end ≤ anew_number (nth_anew log count)) → AreAgain (rows_of w s rs ts n) number end
again_between w s n number count end rs ts log is up last within next = λ place from less later. ⊎_elim
    (λ (found : IsNoted log place). absurd (none place from less found))
    (λ (repeats : IsWrittenAgain w rs ts place).
    bytes_at w rs ts n place (omega (arith, less, up)) ∙ repeats
    ∙ ap repeated_byte (sym (bytes_at w rs ts n (place - w) (omega (arith, less, up)))))
    (is.noted place later (omega (arith, less, up)))
  where
    below : (k : ℕ) → k < count → anew_number (nth_anew log k) < number
    below k low = ⊎_elim
        (λ (here : k ≡ count - 1). subst (λ m. anew_number (nth_anew log m) < number) (sym here) (last (omega (arith, low))))
        (λ (other : k ≡ count - 1 → ⊥). (let rise = is.rising k (count - 1) (omega (arith, low, other))
        (omega (arith, low, within)) in let top = last (omega (arith, low)) in omega (arith, rise, top)))
        (cases_eq k (count - 1))

    above : (k : ℕ) → count ≤ k → k < length log → end ≤ anew_number (nth_anew log k)
    above k up low = ⊎_elim
        (λ (here : count ≡ k). subst (λ m. end ≤ anew_number (nth_anew log m)) here (next (omega (arith, here, low))))
        (λ (other : count ≡ k → ⊥). (let rise = is.rising count k (omega (arith, up, other)) low in
        let first = next (omega (arith, up, low)) in omega (arith, rise, first)))
        (cases_eq count k)

    none : (place : ℕ) → number ≤ place → place < end → IsNoted log place → ⊥
    none place from less found = ⊎_elim
        (λ (low : found.0 < count). (let b = below found.0 low in let e = found.2 in omega (arith, b, e, from)))
        (λ (up : count ≤ found.0). (let a = above found.0 up found.1 in let e = found.2 in omega (arith, a, e, less)))
        (cases_lt found.0 count)

-- The places of a part of the log, and those between them.
pub next_by : (b : Bool) (x y : ℕ) → (b ≡ true → (if b then x else y) ≡ x) × (b ≡ false → (if b then x else y) ≡ y)
next_by true x y = (λ is. refl, λ is. cc)
next_by false x y = (λ is. cc, λ is. refl)

pub behind_none : (number : ℕ) (places : List Anew) → number_behind number places 0 ≡ number
behind_none number places = refl

pub behind_more : (number : ℕ) (places : List Anew) (i : ℕ)
    → number_behind number places (i + 1) ≡ anew_number (nth_anew places i) + 1
behind_more number places i =
    (next_by (i + 1 == 0) number (anew_number (nth_anew places (i + 1 - 1)) + 1)).1
    (ne_eqb (i + 1) 0 (λ is. omega (arith, is)))
    ∙ ap (λ k. anew_number (nth_anew places k) + 1) (let back : i + 1 - 1 ≡ i = omega arith in back)

pub next_some : (end : ℕ) (places : List Anew) (i : ℕ) → i < length places
    → number_next end places i ≡ anew_number (nth_anew places i)
next_some end places i less = (next_by (nat_lt i (length places)) (anew_number (nth_anew places i)) end).0
    (lt-ltb i (length places) less)

pub next_none : (end : ℕ) (places : List Anew) (i : ℕ) → length places ≤ i → number_next end places i ≡ end
next_none end places i up = (next_by (nat_lt i (length places)) (anew_number (nth_anew places i)) end).1
    (le-ltb i (length places) up)

nth_part : (log places : List Anew) (first last i : ℕ) → places ≡ take (last - first) (drop first log)
    → i < last - first → nth_anew places i ≡ nth_anew log (first + i)
nth_part log places first last i is less = ap (λ (ps : List Anew). nth_anew ps i) is
    ∙ get_or-take (last - first) (drop first log) i no_anew less ∙ get_or-drop first log i no_anew

pub part_is : (w s n number end first last : ℕ) (rs : List ℕ) (ts : List (List Entry)) (log places : List Anew)
    → AreNoted w n rs ts log → end ≤ n → number ≤ end
    → (0 < first → anew_number (nth_anew log (first - 1)) < number)
    → (first < length log → number ≤ anew_number (nth_anew log first))
    → (0 < last → anew_number (nth_anew log (last - 1)) < end) → last ≤ length log
    → (last < length log → end ≤ anew_number (nth_anew log last)) → first ≤ last
    → places ≡ take (last - first) (drop first log) → AreAnewBetween (rows_of w s rs ts n) number end places
part_is w s n number end first last rs ts log places noted up order before from below within next less is = record {
  inside = λ i low. subst (λ (a : Anew). anew_number a < end) (sym (there i low)) (under (first + i) (omega (arith, low, long)));
  rising = λ i low. subst (λ (a : Anew). number_behind number places i ≤ anew_number a) (sym (there i low))
      (behind_up i low);
  bytes = λ i low. (let reached = under (first + i) (omega (arith, low, long)) in
      ap anew_byte (there i low)
      ∙ noted.bytes (first + i) (omega (arith, low, long, within))
      ∙ sym (bytes_at w rs ts n (anew_number (nth_anew log (first + i))) (omega (arith, reached, up)))
      ∙ ap (λ (a : Anew). slice_index_or (bytes_in w rs ts n) (anew_number a) 0) (sym (there i low)));
  between = λ i low. again_between w s n (number_behind number places i) (first + i) (number_next end places i) rs ts log
      noted (next_low i low) (last_low i low) (omega (arith, low, long, within)) (next_up i low);
}
  where
    long : length places ≡ last - first
    long = ap length is ∙ length-take-le (last - first) (drop first log)
        (let dropped = length-drop first log in omega (arith, dropped, within))

    there : (i : ℕ) → i < length places → nth_anew places i ≡ nth_anew log (first + i)
    there i low = nth_part log places first last i is (omega (arith, low, long))

    under : (k : ℕ) → k < last → anew_number (nth_anew log k) < end
    under k low = ⊎_elim
        (λ (here : k ≡ last - 1). subst (λ m. anew_number (nth_anew log m) < end) (sym here) (below (omega (arith, low))))
        (λ (other : k ≡ last - 1 → ⊥). (let rise = noted.rising k (last - 1) (omega (arith, low, other))
        (omega (arith, low, within)) in let top = below (omega (arith, low)) in omega (arith, rise, top)))
        (cases_eq k (last - 1))

    behind_up : (i : ℕ) → i < length places → number_behind number places i ≤ anew_number (nth_anew log (first + i))
    behind_up zero low = subst (λ k. number ≤ anew_number (nth_anew log k)) (omega arith)
        (from (omega (arith, low, long, within)))
    behind_up (suc i) low =
        let here = ap anew_number (there i (omega (arith, low))) in
        let is : number_behind number places (suc i) ≡ anew_number (nth_anew places i) + 1 =
        subst (λ k. number_behind number places k ≡ anew_number (nth_anew places i) + 1) (omega arith)
        (behind_more number places i) in
        let rise = noted.rising (first + i) (first + suc i) (omega arith) (omega (arith, low, long, within)) in
        omega (arith, rise, is, here)

    next_low : (i : ℕ) → i ≤ length places → number_next end places i ≤ n
    next_low i low = ⊎_elim
        (λ (some : i < length places). (let reached = under (first + i) (omega (arith, some, long)) in
        let is = next_some end places i some in let a = ap anew_number (there i some) in omega (arith, reached, is, a, up)))
        (λ (none : length places ≤ i). (let is = next_none end places i none in omega (arith, is, up)))
        (cases_lt i (length places))

    last_low : (i : ℕ) → i ≤ length places → 0 < first + i
        → anew_number (nth_anew log (first + i - 1)) < number_behind number places i
    last_low zero low some = subst (λ k. anew_number (nth_anew log (k - 1)) < number) (omega arith)
        (before (omega (arith, some)))
    last_low (suc i) low some =
        let here = ap anew_number (there i (omega (arith, low))) in
        let is : number_behind number places (suc i) ≡ anew_number (nth_anew places i) + 1 =
        subst (λ k. number_behind number places k ≡ anew_number (nth_anew places i) + 1) (omega arith)
        (behind_more number places i) in
        let one : first + suc i - 1 ≡ first + i = omega arith in
        subst (λ k. anew_number (nth_anew log k) < number_behind number places (suc i)) (sym one)
        (omega (arith, here, is))

    next_up : (i : ℕ) → i ≤ length places → first + i < length log
        → number_next end places i ≤ anew_number (nth_anew log (first + i))
    next_up i low inside = ⊎_elim
        (λ (some : i < length places). (let is = next_some end places i some in let a = ap anew_number (there i some) in
        omega (arith, is, a)))
        (λ (none : length places ≤ i). (let is = next_none end places i none in
        let at : last ≡ first + i = omega (arith, low, none, long, less) in
        let top = next (omega (arith, at, inside)) in
        subst (λ k. number_next end places i ≤ anew_number (nth_anew log k)) at (omega (arith, is, top))))
        (cases_lt i (length places))

-- The part ends where it begins, or behind.
pub part_order : (w n number end first last : ℕ) (rs : List ℕ) (ts : List (List Entry)) (log : List Anew)
    → AreNoted w n rs ts log
    → number ≤ end → (0 < first → anew_number (nth_anew log (first - 1)) < number) → first ≤ length log
    → (last < length log → end ≤ anew_number (nth_anew log last)) → first ≤ last
part_order w n number end first last rs ts log noted order before within next = ⊎_elim
    (λ (wrong : last < first). (let low = before (omega (arith, wrong)) in
    let high = next (omega (arith, wrong, within)) in
    absurd (⊎_elim
    (λ (here : last ≡ first - 1). (let same = ap (λ k. anew_number (nth_anew log k)) here in
    omega (arith, same, low, high, order)))
    (λ (other : last ≡ first - 1 → ⊥). (let rise = noted.rising last (first - 1) (omega (arith, wrong, other))
    (omega (arith, wrong, within)) in omega (arith, rise, low, high, order)))
    (cases_eq last (first - 1)))))
    (λ (right : first ≤ last). right) (cases_lt last first)
