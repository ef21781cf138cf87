-- When a clause is tight and new.
use Rattle.std.proofs.Common.{◌≡◌, ◌≢◌, ℕ, ◌<◌, ◌+◌, ◌-◌, Bool, true, List, [], ◌∷◌, ◌++◌, length, ap, sym, ◌∙◌, inl, inr, slice_index_or, take, drop, arith, subst, append_assoc, append-nil}
use Rattle.std.proofs.lemmas.Bool.{cases_eq, false≢true}
use Rattle.std.proofs.lemmas.List.{take_more, get_or-take, get_or-drop, get_or_append_left, take_all, length-append, take-take, length-take, length-drop}
use Rattle.std.proofs.lemmas.List.Elements.{All-contains, All-append, All-nil, All-cons, All-take, All-get_or, All-from_get_or, Contains-get_or, Contains-push, Contains-append_left, Contains-append_right, Contains-append_cases, Contains-push_cases}
use Rattle.std.proofs.Math.Seq.{get_or-append_seam}
use Rattle.std.specs.Prelude.{ℤ, pos, neg_ℤ}
use Rattle.std.specs.List.{All, Contains}
use Rattle.sat_proof.specs.Closed.{IsFalse, IsQuiet, AreOthersFalse, NoneResists}
use Rattle.sat_proof.specs.Code.{HasRoom}
use Rattle.sat_proof.specs.Follows.{without, IsTight}
use Rattle.sat_proof.specs.Log.{AreSameSet, HasNoComplements, IsFresh}
use Rattle.sat_proof.specs.Status.{literal_at}
use Rattle.sat_proof.proofs.Codes.{neg-neg, neg_own, literal_cases}
use Rattle.sat_proof.proofs.Deciding.{follows_if_none}
use Rattle.sat_proof.proofs.ClosedSets.{all_from, none_resists, wider}
use Rattle.sat_search.specs.Learn.{IsSparing, AreNeeded, IsExtended, IsAsserting, last_of, front_of}
use Rattle.sat_search.specs.Reach.{IsFixed, IsMet}
use Rattle.sat_search.proofs.Reaching.{more_taken, left_false}

-- a clause doesn't follow whose literals a closed set without a conflict has
pub fixed_not_follows : (clauses : List (List ℤ)) (c : List ℤ) (f : ℤ → Bool) → IsFixed clauses c f → NoneResists clauses c → ⊥
fixed_not_follows clauses c f h none = none f (record {
  assumed = h.assumed;
  apart = λ k d lt other. h.apart (slice_index_or c k d) (h.assumed k d lt) (All-contains (λ l. f l ≡ true) c (neg_ℤ (slice_index_or c k d)) h.assumed other);
  quiet = h.quiet;
})

right_false : (f : ℤ → Bool) (a b : List ℤ) → IsFalse f (a ++ b) → IsFalse f b
right_false f a b bad = all_from (λ l. f l ≡ true) b (λ l here. All-contains (λ m. f m ≡ true) (a ++ b) l bad (Contains-append_right a b l here))

pushed_before : (kept : List ℤ) (l : ℤ) (m : ℕ) → m < length kept → literal_at (kept ++ l ∷ []) m ≡ literal_at kept m
pushed_before kept l m lt = get_or_append_left kept (l ∷ []) (pos 0) m lt

pushed_last : (kept : List ℤ) (l : ℤ) → literal_at (kept ++ l ∷ []) (length kept) ≡ l
pushed_last kept l = get_or-append_seam kept l [] (pos 0)

pub length_pushed : (kept : List ℤ) (l : ℤ) → length (kept ++ l ∷ []) ≡ length kept + 1
length_pushed kept l = omega (arith, length-append kept (l ∷ []))

-- The rest's literal at k is needed, since there is no conflict before it comes.
module _ (clauses : List (List ℤ)) (kept rest : List ℤ) (k : ℕ) (lt : k < length rest) where
  needed_old : (j : ℕ) → j < length kept → ((f : ℤ → Bool) × IsSparing clauses kept rest j f)
      → (f : ℤ → Bool) × IsSparing clauses (kept ++ literal_at rest k ∷ []) (take k rest) j f
  needed_old j below (f, s) = (
    f,
    record {
      quiet = s.quiet;
      apart = s.apart;
      others = λ m m_lt ne. elim (cases_eq m (length kept)) [
        | inl e ↦ ap (λ i. f (literal_at (kept ++ literal_at rest k ∷ []) i)) e ∙ ap f (pushed_last kept (literal_at rest k)) ∙ All-get_or (λ l. f l ≡ true) rest k (pos 0) lt s.rest_false
        | inr other ↦
            let m_below : m < length kept = omega (arith, length_pushed kept (literal_at rest k)) in
            ap f (pushed_before kept (literal_at rest k) m m_below) ∙ s.others m m_below ne
      ];
      rest_false = All-take (λ l. f l ≡ true) k rest s.rest_false;
    },
  )

  needed_new : (f : ℤ → Bool) → IsFixed clauses (kept ++ take k rest) f → (j : ℕ) → j ≡ length kept
      → (g : ℤ → Bool) × IsSparing clauses (kept ++ literal_at rest k ∷ []) (take k rest) j g
  needed_new f h j e = (
    f,
    record {
      quiet = h.quiet;
      apart = h.apart;
      others = λ m m_lt ne.
          let m_below : m < length kept = omega (arith, length_pushed kept (literal_at rest k), e, ne) in
          ap f (pushed_before kept (literal_at rest k) m m_below) ∙ All-get_or (λ l. f l ≡ true) kept m (pos 0) m_below (left_false f kept (take k rest) h.assumed);
      rest_false = right_false f kept (take k rest) h.assumed;
    },
  )

  pub needed_more : AreNeeded clauses kept rest → ((f : ℤ → Bool) × IsFixed clauses (kept ++ take k rest) f)
      → AreNeeded clauses (kept ++ literal_at rest k ∷ []) (take k rest)
  needed_more all (f, h) j j_lt = elim (cases_eq j (length kept)) [
    | inl e ↦ needed_new f h j e
    | inr ne ↦ let below : j < length kept = omega (arith, length_pushed kept (literal_at rest k)) in needed_old j below (all j below)
  ]

  pub follows_more : NoneResists clauses (kept ++ take (k + 1) rest) → NoneResists clauses ((kept ++ literal_at rest k ∷ []) ++ take k rest)
  follows_more none =
      let large : List ℤ = (kept ++ literal_at rest k ∷ []) ++ take k rest in
      let small_is : (kept ++ take k rest) ++ literal_at rest k ∷ [] ≡ kept ++ take (k + 1) rest = more_taken kept rest k lt in
      wider clauses (kept ++ take (k + 1) rest) large
      (subst (All (Contains large)) small_is (all_from (Contains large) ((kept ++ take k rest) ++ literal_at rest k ∷ []) (λ x here.
      elim (Contains-push_cases (kept ++ take k rest) (literal_at rest k) x here) [
        | inl a ↦ elim (Contains-append_cases kept (take k rest) x a) [
          | inl b ↦ Contains-append_left (kept ++ literal_at rest k ∷ []) (take k rest) x (Contains-append_left kept (literal_at rest k ∷ []) x b)
          | inr b ↦ Contains-append_right (kept ++ literal_at rest k ∷ []) (take k rest) x b
        ]
        | inr e ↦ subst (Contains large) e (Contains-append_left (kept ++ literal_at rest k ∷ []) (take k rest) (literal_at rest k) (Contains-push kept (literal_at rest k)))
      ])))
      none

pub extended_more : (kept rest : List ℤ) (k : ℕ) → k < length rest → (old : List ℤ) → IsExtended old rest kept → IsExtended old rest (kept ++ literal_at rest k ∷ [])
extended_more kept rest k lt old (more, is, within) = (
  more ++ literal_at rest k ∷ [],
  ap (λ (xs : List ℤ). xs ++ literal_at rest k ∷ []) is ∙ append_assoc old more (literal_at rest k ∷ []),
  All-append (Contains rest) more (literal_at rest k ∷ []) within (All-cons (Contains rest) (literal_at rest k) [] (Contains-get_or rest k (pos 0) lt) (All-nil (Contains rest))),
)

pub room_more : (n : ℕ) (kept rest : List ℤ) (k : ℕ) → k < length rest → All (HasRoom n) kept → All (HasRoom n) rest → All (HasRoom n) (kept ++ literal_at rest k ∷ [])
room_more n kept rest k lt a b = All-append (HasRoom n) kept (literal_at rest k ∷ []) a
    (All-cons (HasRoom n) (literal_at rest k) [] (All-get_or (HasRoom n) rest k (pos 0) lt b) (All-nil (HasRoom n)))

pub below_taken : (len k : ℕ) (rest : List ℤ) → k < length (take len rest) → (k < length rest) × (k < len)
below_taken len k rest lt = (omega (arith, length-take len rest), omega (arith, length-take len rest))

-- One round: the conflict came with the literal at k, of those of the rest that are left.
module _ (clauses : List (List ℤ)) (kept rest : List ℤ) (len k : ℕ) (lt : k < length (take len rest)) (met : IsMet clauses kept (take len rest) k) where
  same_literal : literal_at (take len rest) k ≡ literal_at rest k
  same_literal = get_or-take len rest k (pos 0) (omega (arith, length-take len rest))

  same_rest : take k (take len rest) ≡ take k rest
  same_rest = take-take k len rest (omega (arith, length-take len rest))

  pub round_needed : AreNeeded clauses kept (take len rest) → AreNeeded clauses (kept ++ literal_at rest k ∷ []) (take k rest)
  round_needed needed = subst (λ (xs : List ℤ). AreNeeded clauses (kept ++ literal_at rest k ∷ []) xs) same_rest
      (subst (λ x. AreNeeded clauses (kept ++ x ∷ []) (take k (take len rest))) same_literal (needed_more clauses kept (take len rest) k lt needed met.fixed))

  pub round_follows : NoneResists clauses ((kept ++ literal_at rest k ∷ []) ++ take k rest)
  round_follows = subst (λ (xs : List ℤ). NoneResists clauses ((kept ++ literal_at rest k ∷ []) ++ xs)) same_rest
      (subst (λ x. NoneResists clauses ((kept ++ x ∷ []) ++ take k (take len rest))) same_literal (follows_more clauses kept (take len rest) k lt met.follows))

pub needed_alone : (clauses : List (List ℤ)) (kept rest : List ℤ) → AreNeeded clauses kept rest → AreNeeded clauses kept []
needed_alone clauses kept rest all j lt = let (f, s) = all j lt in (f, record { quiet = s.quiet; apart = s.apart; others = s.others; rest_false = All-nil (λ l. f l ≡ true) })

pub extended_none : (old rest : List ℤ) → IsExtended old rest old
extended_none old rest = ([], sym (append-nil old), All-nil (Contains rest))

-- A fact at each place but one.
all_without : (P : ℤ → Type 0) (c : List ℤ) (k : ℕ) → ((m : ℕ) → m < length c → m ≢ k → P (literal_at c m)) → All P (without k c)
all_without P c k each = All-append P (take k c) (drop (k + 1) c)
    (All-from_get_or P (take k c) (pos 0) (λ i lt. subst P (sym (get_or-take k c i (pos 0) (omega (arith, length-take k c)))) (each i (omega (arith, length-take k c)) (λ e. omega (arith, e, length-take k c)))))
    (All-from_get_or P (drop (k + 1) c) (pos 0) (λ i lt. subst P (sym (get_or-drop (k + 1) c i (pos 0))) (each (k + 1 + i) (omega (arith, length-drop (k + 1) c)) (λ e. omega (arith, e)))))

-- a clause is tight where each of its literals is needed
pub tight_if_needed : (clauses : List (List ℤ)) (c : List ℤ) → AreNeeded clauses c [] → IsTight clauses c
tight_if_needed clauses c all k lt follows =
    let (f, s) = all k lt in
    fixed_not_follows clauses (without k c) f (record { quiet = s.quiet; apart = s.apart; assumed = all_without (λ l. f l ≡ true) c k s.others })
    (none_resists clauses (without k c) follows)

-- A clause of l and some of the rest.
module _ (clauses : List (List ℤ)) (l : ℤ) (rest c : List ℤ) (f : ℤ → Bool) (a : IsAsserting clauses l rest f) (part : IsExtended (l ∷ []) rest c) where
  other_false : (m : ℤ) → Contains c m → m ≢ l → f m ≡ true
  other_false m here ne =
      let (more, is, within) = part in
      elim (Contains-append_cases (l ∷ []) more m (subst (λ (xs : List ℤ). Contains xs m) is here)) [
        | inl first ↦ elim (Contains-push_cases [] l m first) [ inl none ↦ let (k, lt, e) = none in absurd (omega arith) | inr e ↦ absurd (ne (sym e)) ]
        | inr other ↦ All-contains (λ x. f x ≡ true) rest m a.rest_false (All-contains (Contains rest) more m within other)
      ]

  -- No clause of the list lies within it: that clause would have been false, or would have made l true.
  pub none_within : (d : List ℤ) → Contains clauses d → All (Contains c) d → ⊥
  none_within d is_clause within =
      let quiet : IsQuiet f d = All-contains (IsQuiet f) clauses d a.quiet is_clause in
      let in_c : (m : ℤ) → Contains d m → Contains c m = λ m here. All-contains (Contains c) d m within here in
      let has_none : Contains d l → ⊥ = λ here. false≢true (sym a.not_true ∙ All-contains (λ x. AreOthersFalse f d x → f (neg_ℤ x) ≡ true) d l quiet.closed here
      (all_from (λ m. m ≢ l → f m ≡ true) d (λ m m_here ne. other_false m (in_c m m_here) ne))) in
      quiet.met (all_from (λ m. f m ≡ true) d (λ m m_here. other_false m (in_c m m_here) (λ e. has_none (subst (Contains d) e m_here))))

  no_complements : l ≢ pos 0 → HasNoComplements c
  no_complements nonzero = all_from (λ m. Contains c (neg_ℤ m) → ⊥) c (λ m here other. elim (literal_cases m l) [
    | inl e ↦ false≢true (sym a.not_true ∙ other_false (neg_ℤ l) (subst (λ x. Contains c (neg_ℤ x)) e other) (λ own. nonzero (neg_own l own)))
    | inr ne ↦ elim (literal_cases (neg_ℤ m) l) [
      | inl e ↦ false≢true (sym a.not_true ∙ ap (λ x. f (neg_ℤ x)) (sym e) ∙ ap f (neg-neg m) ∙ other_false m here ne)
      | inr other_ne ↦ a.apart m (other_false m here ne) (other_false (neg_ℤ m) other other_ne)
    ]
  ])

  -- The learnt clause is fresh.
  pub fresh_if_asserting : l ≢ pos 0 → NoneResists clauses c → AreNeeded clauses c [] → IsFresh clauses c
  fresh_if_asserting nonzero none needed = record {
    filled = let (more, is, within) = part in omega (arith, ap length is, length-append (l ∷ []) more);
    no_tautology = no_complements nonzero;
    «new» = all_from (λ d. AreSameSet c d → ⊥) clauses (λ d is_clause same. none_within d is_clause same.1);
    follows = follows_if_none clauses c none;
    tight = tight_if_needed clauses c needed;
  }

-- the first literal is needed, since the rest alone is false there
pub needed_first : (clauses : List (List ℤ)) (l : ℤ) (rest : List ℤ) (f : ℤ → Bool) → IsAsserting clauses l rest f → AreNeeded clauses (l ∷ []) rest
needed_first clauses l rest f a j lt = (
  f,
  record {
    quiet = a.quiet;
    apart = a.apart;
    others = λ m m_lt ne. absurd (omega arith);
    rest_false = a.rest_false;
  },
)

-- the last literal comes first
pub turned_wider : (clauses : List (List ℤ)) (c : List ℤ) → 0 < length c → NoneResists clauses c → NoneResists clauses ((last_of c ∷ []) ++ front_of c)
turned_wider clauses c some none =
    let n : ℕ = length c - 1 in
    let large : List ℤ = (last_of c ∷ []) ++ front_of c in
    let is : take n c ++ literal_at c n ∷ [] ≡ c = sym (take_more c n (pos 0) (omega arith)) ∙ take_all (n + 1) c (omega arith) in
    wider clauses c large (all_from (Contains large) c (λ x here.
    elim (Contains-push_cases (take n c) (literal_at c n) x (subst (λ (xs : List ℤ). Contains xs x) (sym is) here)) [
      | inl front ↦ Contains-append_right (last_of c ∷ []) (front_of c) x front
      | inr e ↦ subst (Contains large) e (Contains-append_left (last_of c ∷ []) (front_of c) (last_of c) (Contains-push [] (last_of c)))
    ])) none

pub last_below : (c : List ℤ) → 0 < length c → length c - 1 < length c
last_below c some = omega arith
