-- A trail that grows by a literal, and one that is undone.
use Rattle.std.proofs.Common.{◌≡◌, ◌≢◌, ℕ, ◌<◌, ◌≤◌, ◌+◌, Bool, true, false, List, [], ◌∷◌, length, ap, sym, refl, ◌∙◌, inl, inr, set, slice_index_or, suc, arith, subst, cond}
use Rattle.std.proofs.lemmas.Bool.{cases_eq, cases_lt, false≢true}
use Rattle.std.proofs.lemmas.List.{get_or-set_other, get_or-set_same, get_or_past, length-set, ext_get_or}
use Rattle.std.proofs.lemmas.List.Sums.{sum_by-set, sum_by-cons}
use Rattle.std.specs.Prelude.{ℤ}
use Rattle.std.specs.List.{Contains}
use Rattle.sat_proof.specs.Code.{code_of, unmarked, AreClear, AreInStep, IsConsistent}
use Rattle.sat_proof.specs.Trail.{code_at, HasSince, IsPush, IsOver, StaysOver, IsPop, IsUndoing, IsSameTrail}
use Rattle.sat_proof.specs.declared.trail.Trail.{Trail}
use Rattle.sat_proof.proofs.Codes.{mark_kept, mark_cases, by_not_true}

abbrev still : Bool → ℕ
still b = cond {A = ℕ} b 0 1

pub unmarked_step : (marks : List Bool) (k : ℕ) → k < length marks → slice_index_or marks k false ≡ false → unmarked (set marks k true) + 1 ≡ unmarked marks
unmarked_step marks k lt off =
    let one : still (slice_index_or marks k false) ≡ 1 = ap still off in
    omega (arith, sum_by-set still marks k true false lt, one)

pub unmarked_clear : (marks : List Bool) → AreClear marks → unmarked marks ≡ length marks
unmarked_clear [] clear = refl
unmarked_clear (b ∷ marks) clear =
    let one : still b ≡ 1 = ap still (clear 0) in
    let rest : unmarked marks ≡ length marks = unmarked_clear marks (λ k. clear (suc k)) in
    let head : unmarked (b ∷ marks) ≡ still b + unmarked marks = sum_by-cons still b marks in
    omega (arith, one, rest, head)

-- a mark that isn't set has room for its code
pub room_left : (t : Trail) (code : ℕ) → code < length t.marks.items → slice_index_or t.marks.items code false ≡ false → t.len < length t.codes.items
room_left t code lt off = omega (arith, unmarked_step t.marks.items code lt off, t.in_step.sized, t.in_step.counted)

pub step_push : (marks : List Bool) (codes : List ℕ) (len code : ℕ) → AreInStep marks codes len → code < length marks → slice_index_or marks code false ≡ false
    → IsConsistent (set marks code true) → AreInStep (set marks code true) (set codes len code) (len + 1)
step_push marks codes len code h lt off apart =
    let size : length (set marks code true) ≡ length marks = length-set marks code true in
    let room : len < length codes = omega (arith, unmarked_step marks code lt off, h.sized, h.counted) in
    record {
      sized = length-set codes len code ∙ h.sized ∙ sym size;
      coded = λ j j_lt. elim (cases_eq j len) [
        | inl e ↦ omega (arith, ap (λ i. slice_index_or (set codes len code) i 0) e, get_or-set_same codes len code 0 room, size)
        | inr ne ↦ omega (arith, get_or-set_other codes len j code 0 ne, h.coded j (omega arith), size)
      ];
      counted = omega (arith, unmarked_step marks code lt off, h.counted, size);
      consistent = apart;
    }

pub step_clear : (marks : List Bool) (codes : List ℕ) → length codes ≡ length marks → AreClear marks → AreInStep marks codes 0
step_clear marks codes sized clear = record {
  sized = sized;
  coded = λ j lt. absurd (omega arith);
  counted = omega (arith, unmarked_clear marks clear);
  consistent = λ l on other. false≢true (sym (clear (code_of l)) ∙ on);
}

module _ (old new : Trail) (code : ℕ) (lt : code < length old.marks.items) (off : slice_index_or old.marks.items code false ≡ false)
    (p : IsPush old new code) where
  pub code_new : code_at new old.len ≡ code
  code_new = ap (λ cs. slice_index_or cs old.len 0) p.codes ∙ get_or-set_same old.codes.items old.len code 0 (room_left old code lt off)

  pub code_kept : (j : ℕ) → j ≢ old.len → code_at new j ≡ code_at old j
  code_kept j ne = ap (λ cs. slice_index_or cs j 0) p.codes ∙ get_or-set_other old.codes.items old.len j code 0 ne

  pub push_sized : length new.marks.items ≡ length old.marks.items
  push_sized = ap length p.marks ∙ length-set old.marks.items code true

  -- a code that came earlier is still there
  pub since_kept : (from : ℕ) (clause : List ℤ) → HasSince old from clause → HasSince new from clause
  since_kept from clause (j, low, high, (m, here, e)) =
      (j, low, omega (arith, p.len), (m, here, code_kept j (omega arith) ∙ e))

  -- the new one came, too
  pub since_new : (from : ℕ) (clause : List ℤ) (m : ℤ) → from ≤ old.len → Contains clause m → code ≡ code_of m → HasSince new from clause
  since_new from clause m low here e = (old.len, low, omega (arith, p.len), (m, here, code_new ∙ e))

  pub over_push : StaysOver old new
  over_push base b h = record {
    sized = push_sized ∙ h.sized;
    low = omega (arith, p.len, h.low);
    kept = λ k on. subst (λ (ms : List Bool). slice_index_or ms k false ≡ true) (sym p.marks) (mark_kept old.marks.items code k lt (h.kept k on));
    traced = λ k on. elim (mark_cases old.marks.items code k lt (subst (λ (ms : List Bool). slice_index_or ms k false ≡ true) p.marks on)) [
      | inl a ↦ elim (h.traced k a) [
        | inl x ↦ inl x
        | inr y ↦ let (j, low, high, e) = y in inr (j, low, omega (arith, p.len), code_kept j (omega arith) ∙ e)
      ]
      | inr e ↦ inr (old.len, h.low, omega (arith, p.len), code_new ∙ sym e)
    ];
    «new» = λ j low high. elim (cases_eq j old.len) [
      | inl e ↦ subst (λ c. (c < length new.marks.items) × (slice_index_or base c false ≡ false)) (sym (ap (code_at new) e ∙ code_new))
          (omega (arith, push_sized), by_not_true (slice_index_or base code false) (λ on. false≢true (sym off ∙ h.kept code on)))
      | inr ne ↦ subst (λ c. (c < length new.marks.items) × (slice_index_or base c false ≡ false)) (sym (code_kept j ne))
          (let here : (code_at old j < length old.marks.items) × (slice_index_or base (code_at old j) false ≡ false) = h.«new» j low (omega (arith, p.len)) in
          (omega (arith, push_sized, here.0), here.1))
    ];
  }

pub over_none : (t : Trail) → IsOver t.marks.items t.len t
over_none t = record {
  sized = refl;
  low = omega arith;
  kept = λ k on. on;
  traced = λ k on. inl on;
  «new» = λ j low high. absurd (omega arith);
}

pub over_pop : (old new : Trail) (base : List Bool) (b : ℕ) → IsPop old new → b ≤ new.len → IsOver base b old → IsOver base b new
over_pop old new base b p low h =
    let c : ℕ = code_at old new.len in
    let at_c : (c < length old.marks.items) × (slice_index_or base c false ≡ false) = h.«new» new.len low (omega (arith, p.len)) in
    let size : length new.marks.items ≡ length old.marks.items = ap length p.marks ∙ length-set old.marks.items c false in
    let same : (j : ℕ) → code_at new j ≡ code_at old j = λ j. ap (λ cs. slice_index_or cs j 0) p.codes in
    let mark : (k : ℕ) → k ≢ c → slice_index_or new.marks.items k false ≡ slice_index_or old.marks.items k false =
    λ k ne. ap (λ ms. slice_index_or ms k false) p.marks ∙ get_or-set_other old.marks.items c k false false ne in
    let gone : slice_index_or new.marks.items c false ≡ false =
    ap (λ ms. slice_index_or ms c false) p.marks ∙ get_or-set_same old.marks.items c false false at_c.0 in
    record {
      sized = size ∙ h.sized;
      low = low;
      kept = λ k on. mark k (λ e. false≢true (sym at_c.1 ∙ ap (λ i. slice_index_or base i false) (sym e) ∙ on)) ∙ h.kept k on;
      traced = λ k on.
          let ne : k ≢ c = λ e. false≢true (sym gone ∙ ap (λ i. slice_index_or new.marks.items i false) (sym e) ∙ on) in
          elim (h.traced k (sym (mark k ne) ∙ on)) [
            | inl x ↦ inl x
            | inr y ↦ let (j, j_low, high, e) = y in
                let other : j ≢ new.len = λ f. ne (sym e ∙ ap (code_at old) f) in
                inr (j, j_low, omega (arith, p.len), same j ∙ e)
          ];
      «new» = λ j j_low high.
          let here : (code_at old j < length old.marks.items) × (slice_index_or base (code_at old j) false ≡ false) = h.«new» j j_low (omega (arith, p.len)) in
          subst (λ i. (i < length new.marks.items) × (slice_index_or base i false ≡ false)) (sym (same j)) (omega (arith, size, here.0), here.1);
    }

pub undoing_none : (t : Trail) (b : ℕ) → b ≤ t.len → IsUndoing t t b
undoing_none t b low = record { low = low; high = omega arith; codes = refl; sized = refl; over = λ base h. h }

pub undoing_pop : (old now next : Trail) (b : ℕ) → IsUndoing old now b → b ≤ next.len → IsPop now next → IsUndoing old next b
undoing_pop old now next b h low p = record {
  low = low;
  high = omega (arith, p.len, h.high);
  codes = p.codes ∙ h.codes;
  sized = ap length p.marks ∙ length-set now.marks.items (code_at now next.len) false ∙ h.sized;
  over = λ base o. over_pop now next base b p low (h.over base o);
}

-- once all is undone the marks are the old ones
pub over_same : (t : Trail) (base : List Bool) → IsOver base t.len t → t.marks.items ≡ base
over_same t base h = ext_get_or false t.marks.items base h.sized (λ k lt.
    let back : slice_index_or t.marks.items k false ≡ true → slice_index_or base k false ≡ true =
    λ on. elim (h.traced k on) [ inl x ↦ x | inr y ↦ let (j, low, high, e) = y in absurd (omega arith) ] in
    same_bool (slice_index_or t.marks.items k false) (slice_index_or base k false) back (h.kept k))
  where
    same_bool : (a b : Bool) → (a ≡ true → b ≡ true) → (b ≡ true → a ≡ true) → a ≡ b
    same_bool true b f g = sym (f refl)
    same_bool false b f g = sym (by_not_true b (λ on. false≢true (g on)))

pub undone : (old now : Trail) (b : ℕ) → IsUndoing old now b → now.len ≡ b → (base : List Bool) → IsOver base b old → now.marks.items ≡ base
undone old now b h e base o = over_same now base (subst (λ n. IsOver base n now) (sym e) (h.over base o))

pub over_sized : (old new : Trail) → StaysOver old new → length new.marks.items ≡ length old.marks.items
over_sized old new over = (over old.marks.items old.len (over_none old)).sized

-- a trail over its old marks comes back to them
pub kept_by_undo : (old mid new : Trail) → StaysOver old mid → ((base : List Bool) → IsOver base old.len mid → new.marks.items ≡ base)
    → new.len ≡ old.len → new.read ≡ old.read → IsSameTrail old new
kept_by_undo old mid new over back len read = record { marks = back old.marks.items (over old.marks.items old.len (over_none old)); len = len; read = read }

pub low_to_undo : (old mid : Trail) → StaysOver old mid → old.len ≤ mid.len
low_to_undo old mid over = (over old.marks.items old.len (over_none old)).low

pub clear_all : (marks : List Bool) (n : ℕ) → length marks ≤ n → ((k : ℕ) → k < n → slice_index_or marks k false ≡ false) → AreClear marks
clear_all marks n le below k = elim (cases_lt k n) [ inl lt ↦ below k lt | inr past ↦ get_or_past marks k false (omega arith) ]

-- only the place of what was read differs
pub over_read : (base : List Bool) (b : ℕ) (t u : Trail) → u.marks.items ≡ t.marks.items → u.codes.items ≡ t.codes.items → u.len ≡ t.len → IsOver base b t → IsOver base b u
over_read base b t u marks codes len h = record {
  sized = ap length marks ∙ h.sized;
  low = omega (arith, len, h.low);
  kept = λ k on. ap (λ ms. slice_index_or ms k false) marks ∙ h.kept k on;
  traced = λ k on. elim (h.traced k (sym (ap (λ ms. slice_index_or ms k false) marks) ∙ on)) [
    | inl x ↦ inl x
    | inr y ↦ let (j, low, high, e) = y in inr (j, low, omega (arith, len), ap (λ cs. slice_index_or cs j 0) codes ∙ e)
  ];
  «new» = λ j low high.
      let here : (code_at t j < length t.marks.items) × (slice_index_or base (code_at t j) false ≡ false) = h.«new» j low (omega (arith, len)) in
      let same : code_at u j ≡ code_at t j = ap (λ cs. slice_index_or cs j 0) codes in
      subst (λ i. (i < length u.marks.items) × (slice_index_or base i false ≡ false)) (sym same) (omega (arith, ap length marks, here.0), here.1);
}
