-- Decisions: literals of open variables, and the trail before the last one.
use Rattle.std.proofs.Common.{◌≡◌, ℕ, suc, ◌<◌, ◌≤◌, ◌+◌, ◌-◌, ◌*◌, Bool, true, false, List, [], ◌∷◌, ◌++◌, length, ap, sym, ◌∙◌, inl, inr, slice_index_or, take, arith, subst, add-one}
use Rattle.std.proofs.lemmas.Bool.{cases_lt, false≢true}
use Rattle.std.proofs.lemmas.List.{take_more, take_all, length-append}
use Rattle.std.proofs.lemmas.List.Elements.{All-append, All-cons, All-nil}
use Rattle.std.proofs.Math.Seq.{get_or-append_seam, take-append_seam}
use Rattle.std.specs.Prelude.{ℤ, pos, negsuc, neg_ℤ}
use Rattle.std.specs.List.{All}
use Rattle.sat_proof.specs.Code.{is_false, code_of, HasRoom, IsMarkedWithin}
use Rattle.sat_proof.specs.Status.{literal_at}
use Rattle.sat_proof.specs.Trail.{held, code_at, IsOver, StaysOver}
use Rattle.sat_proof.specs.declared.propagator.Propagator.{Propagator}
use Rattle.sat_proof.specs.declared.trail.Trail.{Trail}
use Rattle.sat_proof.proofs.Trails.{over_none}
use Rattle.sat_search.specs.Decide.{IsLiteralOf, HasValue, HasNone, AreValued, IsNext}
use Rattle.sat_search.specs.Learn.{IsCandidate, last_of, front_of}
use Rattle.sat_search.specs.Reach.{IsSettled, IsFrom}

pub front_last : (c : List ℤ) → 0 < length c → front_of c ++ last_of c ∷ [] ≡ c
front_last c some = sym (take_more c (length c - 1) (pos 0) (omega arith)) ∙ take_all (length c - 1 + 1) c (omega arith)

-- once the trail is undone it is over what it was over
pub over_back : (base : List Bool) (b : ℕ) (old mid new : Trail) → StaysOver old mid → IsOver base b old → new.marks.items ≡ old.marks.items
    → new.codes.items ≡ mid.codes.items → new.len ≡ old.len → IsOver base b new
over_back base b old mid new over h marks codes len =
    let low : IsOver base b mid = over base b h in
    let high : IsOver old.marks.items old.len mid = over old.marks.items old.len (over_none old) in
    let same : (j : ℕ) → code_at new j ≡ code_at mid j = λ j. ap (λ cs. slice_index_or cs j 0) codes in
    record {
      sized = ap length marks ∙ h.sized;
      low = omega (arith, h.low, len);
      kept = λ k on. ap (λ ms. slice_index_or ms k false) marks ∙ h.kept k on;
      traced = λ k on.
          let old_on : slice_index_or old.marks.items k false ≡ true = sym (ap (λ ms. slice_index_or ms k false) marks) ∙ on in
          elim (low.traced k (high.kept k old_on)) [
            | inl x ↦ inl x
            | inr y ↦ let (j, j_low, j_high, e) = y in elim (cases_lt j old.len) [
              | inl below ↦ inr (j, j_low, omega (arith, len), same j ∙ e)
              | inr past ↦ absurd (false≢true (sym (high.«new» j (omega arith) j_high).1 ∙ ap (λ i. slice_index_or old.marks.items i false) e ∙ old_on))
            ]
          ];
      «new» = λ j j_low j_high.
          let here : (code_at mid j < length mid.marks.items) × (slice_index_or base (code_at mid j) false ≡ false) = low.«new» j j_low (omega (arith, high.low, len)) in
          subst (λ i. (i < length new.marks.items) × (slice_index_or base i false ≡ false)) (sym (same j))
          (omega (arith, here.0, high.sized, ap length marks), here.1);
    }

pub literal_room : (size vars n : ℕ) (l : ℤ) → IsLiteralOf n l → n < vars → size ≡ 2 * vars + 2 → HasRoom size l
literal_room size vars n l is lt e =
    let up : pos (n + 1) ≡ pos (suc n) = ap pos (add-one n) in
    elim is [
      | inl a ↦ subst (HasRoom size) (sym (a ∙ up)) (record { nonzero = λ z. cc; own = omega arith; other = omega arith })
      | inr b ↦ subst (HasRoom size) (sym (b ∙ ap neg_ℤ up)) (record { nonzero = λ z. cc; own = omega arith; other = omega arith })
    ]

pub room_pushed : (size : ℕ) (old new : List ℤ) (l : ℤ) → new ≡ old ++ l ∷ [] → All (HasRoom size) old → HasRoom size l → All (HasRoom size) new
room_pushed size old new l is all here = subst (All (HasRoom size)) (sym is) (All-append (HasRoom size) old (l ∷ []) all (All-cons (HasRoom size) l [] here (All-nil (HasRoom size))))

pub pushed_last : (old new : List ℤ) (l : ℤ) → new ≡ old ++ l ∷ [] → last_of new ≡ l
pushed_last old new l is =
    let n : length new - 1 ≡ length old = omega (arith, ap length is, length-append old (l ∷ [])) in
    ap (literal_at new) n ∙ ap (λ (xs : List ℤ). literal_at xs (length old)) is ∙ get_or-append_seam old l [] (pos 0)

pub pushed_front : (old new : List ℤ) (l : ℤ) → new ≡ old ++ l ∷ [] → front_of new ≡ old
pushed_front old new l is =
    let n : length new - 1 ≡ length old = omega (arith, ap length is, length-append old (l ∷ [])) in
    ap (λ i. take i new) n ∙ ap (λ (xs : List ℤ). take (length old) xs) is ∙ take-append_seam old (l ∷ [])

first_code : (marks : List Bool) (n : ℕ) → is_false marks (pos (n + 1)) ≡ slice_index_or marks (2 * n + 2) false
first_code marks n = let e : 2 * (n + 1) ≡ 2 * n + 2 = omega arith in ap (λ i. slice_index_or marks i false) e

second_code : (marks : List Bool) (n : ℕ) → is_false marks (negsuc n) ≡ slice_index_or marks (2 * n + 3) false
second_code marks n = let e : 2 * (n + 1) + 1 ≡ 2 * n + 3 = omega arith in ap (λ i. slice_index_or marks i false) e

other_is : (n : ℕ) → neg_ℤ (pos (n + 1)) ≡ negsuc n
other_is n = ap (λ m. neg_ℤ (pos m)) (add-one n)

pub value_kept : (old new : List Bool) (n : ℕ) → IsMarkedWithin old (is_false new) → HasValue old n → HasValue new n
value_kept old new n grows has = elim has [
  | inl a ↦ inl (sym (first_code new n) ∙ grows (pos (n + 1)) (first_code old n ∙ a))
  | inr b ↦ inr (sym (second_code new n) ∙ grows (negsuc n) (second_code old n ∙ b))
]

pub value_decided : (marks : List Bool) (n : ℕ) (l : ℤ) → IsLiteralOf n l → is_false marks l ≡ true → HasValue marks n
value_decided marks n l is on = elim is [
  | inl a ↦ inl (sym (first_code marks n) ∙ ap (is_false marks) (sym a) ∙ on)
  | inr b ↦ inr (sym (second_code marks n) ∙ ap (is_false marks) (sym (b ∙ other_is n)) ∙ on)
]

-- neither literal of an open variable is true
pub open_not_true : (marks : List Bool) (n : ℕ) (l : ℤ) → IsLiteralOf n l → HasNone marks n → is_false marks (neg_ℤ l) ≡ false
open_not_true marks n l is none = elim is [
  | inl a ↦ ap (λ x. is_false marks (neg_ℤ x)) a ∙ ap (is_false marks) (other_is n) ∙ second_code marks n ∙ none.second
  | inr b ↦ ap (λ x. is_false marks (neg_ℤ x)) (b ∙ other_is n) ∙ ap (λ m. is_false marks (pos m)) (sym (add-one n)) ∙ first_code marks n ∙ none.first
]

-- what the decisions so far came to, if the last one leads to a conflict
pub candidate_from : (p : Propagator) (clauses : List (List ℤ)) (c : List ℤ) → IsSettled p clauses → IsFrom p.trail.marks.items clauses (front_of c) → 0 < length c
    → is_false p.trail.marks.items (neg_ℤ (last_of c)) ≡ false → IsCandidate clauses c (held p.trail)
candidate_from p clauses c s from some off = record {
  filled = some;
  asserting = record { quiet = s.quiet; apart = p.trail.in_step.consistent; not_true = off; rest_false = from.assumed };
}

pub open_not_false : (marks : List Bool) (n : ℕ) (l : ℤ) → IsLiteralOf n l → HasNone marks n → is_false marks l ≡ false
open_not_false marks n l is none = elim is [
  | inl a ↦ ap (is_false marks) a ∙ first_code marks n ∙ none.first
  | inr b ↦ ap (is_false marks) (b ∙ other_is n) ∙ second_code marks n ∙ none.second
]

-- the variables before the cursor keep their values
pub valued_kept : (old new : List Bool) (cursor : ℕ) → IsMarkedWithin old (is_false new) → AreValued old cursor → AreValued new cursor
valued_kept old new cursor grows valued n lt = value_kept old new n grows (valued n lt)

-- those up to the first one without
pub valued_to : (marks : List Bool) (cursor vars n : ℕ) → AreValued marks cursor → IsNext marks cursor vars n → AreValued marks n
valued_to marks cursor vars n valued next m lt = elim (cases_lt m cursor) [
  | inl low ↦ valued m low
  | inr high ↦ next.earlier m (omega arith) lt
]

pub valued_all : (marks : List Bool) (cursor vars : ℕ) → AreValued marks cursor → ((n : ℕ) → cursor ≤ n → n < vars → HasValue marks n) → AreValued marks vars
valued_all marks cursor vars valued rest m lt = elim (cases_lt m cursor) [
  | inl low ↦ valued m low
  | inr high ↦ rest m (omega arith) lt
]

-- a literal that became false came after what was there
pub longer_if_new : (old new : Trail) (l : ℤ) → StaysOver old new → is_false old.marks.items l ≡ false → is_false new.marks.items l ≡ true → old.len < new.len
longer_if_new old new l over off on = elim ((over old.marks.items old.len (over_none old)).traced (code_of l) on) [
  | inl was ↦ absurd (false≢true (sym off ∙ was))
  | inr late ↦ let (j, low, high, e) = late in omega arith
]
