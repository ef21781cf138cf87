-- What no set resists follows: propagation in rounds, over lists, either derives a conflict or ends in a set that resists.
use Rattle.std.proofs.Common.{◌≡◌, ◌≢◌, ℕ, zero, suc, ◌+◌, ◌<◌, ◌≤◌, Bool, true, false, not, cond, ◌||◌, ◌&&◌, eqb, List, [], ◌∷◌, ◌++◌, ap, sym, refl, subst, ◌∙◌, ◌⊎◌, inl, inr, arith}
use Rattle.std.proofs.lemmas.Bool.{false≢true, not-true, not-false, eqb-true, eq-eqb, eqb-false, or_cases, and_parts, and_cases}
use Rattle.std.proofs.lemmas.List.Elements.{All-nil, All-cons, All-contains_itself, All-weaker, All-contains, Contains-append_left, Contains-append_right, Contains-append_cases, Contains-push, Contains-push_cases}
use Rattle.std.specs.Prelude.{ℤ, neg_ℤ}
use Rattle.std.specs.List.{All, Contains}
use Rattle.sat_proof.specs.Closed.{IsFalse, IsQuiet, AreOthersFalse, NoneResists}
use Rattle.sat_proof.specs.Code.{code_of}
use Rattle.sat_proof.specs.Follows.{Adds, assumed, only, Follows, falsified, opposed}
use Rattle.sat_proof.proofs.Codes.{code_apart, neg-neg}
use Rattle.sat_proof.proofs.Quiet.{quiet_by_true, quiet_by_two}

pub at_head : {X : Type 0} (x : X) (xs : List X) → Contains (x ∷ xs) x
at_head x xs = Contains-append_left (x ∷ []) xs x (Contains-push [] x)

pub at_tail : {X : Type 0} (x : X) (xs : List X) (y : X) → Contains xs y → Contains (x ∷ xs) y
at_tail x xs y here = Contains-append_right (x ∷ []) xs y here

pub cons_cases : {X : Type 0} (x : X) (xs : List X) (y : X) → Contains (x ∷ xs) y → (x ≡ y) ⊎ Contains xs y
cons_cases x xs y here = elim (Contains-append_cases (x ∷ []) xs y here) [
  | inl a ↦ elim (Contains-push_cases [] x y a) [ inl none ↦ let (k, lt, e) = none in absurd (omega arith) | inr e ↦ inl e ]
  | inr b ↦ inr b
]

find_here : {X : Type 0} (p : X → Bool) (x : X) (xs : List X) (b : Bool) → p x ≡ b
    → ((y : X) × Contains xs y × (p y ≡ true)) ⊎ All (λ y. p y ≡ false) xs → ((y : X) × Contains (x ∷ xs) y × (p y ≡ true)) ⊎ All (λ y. p y ≡ false) (x ∷ xs)
find_here p x xs true e rest = inl (x, at_head x xs, e)
find_here p x xs false e rest = elim rest [
  | inl some ↦ let (y, here, on) = some in inl (y, at_tail x xs y here, on)
  | inr none ↦ inr (All-cons (λ y. p y ≡ false) x xs e none)
]

-- an element that passes a test, or none does
pub find_or_none : {X : Type 0} (p : X → Bool) (xs : List X) → ((x : X) × Contains xs x × (p x ≡ true)) ⊎ All (λ x. p x ≡ false) xs
find_or_none p [] = inr (All-nil (λ x. p x ≡ false))
find_or_none p (x ∷ xs) = find_here p x xs (p x) refl (find_or_none p xs)

-- whether a list has a literal
has : List ℤ → ℤ → Bool
has [] l = false
has (m ∷ ms) l = eqb (code_of m) (code_of l) || has ms l

has_contains : (ms : List ℤ) (l : ℤ) → has ms l ≡ true → Contains ms l
unfolding has
has_contains [] l on = absurd (false≢true on)
has_contains (m ∷ ms) l on = elim (or_cases (eqb (code_of m) (code_of l)) (has ms l) on) [
  | inl e ↦ subst (Contains (m ∷ ms)) (code_apart m l (eqb-true (code_of m) (code_of l) e)) (at_head m ms)
  | inr h ↦ at_tail m ms l (has_contains ms l h)
]

or_left : (a b : Bool) → a ≡ true → (a || b) ≡ true
or_left true b e = refl
or_left false b e = absurd (false≢true e)

or_right : (a b : Bool) → b ≡ true → (a || b) ≡ true
or_right true b e = refl
or_right false b e = e

contains_has : (ms : List ℤ) (l : ℤ) → Contains ms l → has ms l ≡ true
unfolding has
contains_has [] l here = let (k, lt, e) = here in absurd (omega arith)
contains_has (m ∷ ms) l here = elim (cons_cases m ms l here) [
  | inl e ↦ or_left (eqb (code_of m) (code_of l)) (has ms l) (eq-eqb (code_of m) (code_of l) (ap code_of e))
  | inr h ↦ or_right (eqb (code_of m) (code_of l)) (has ms l) (contains_has ms l h)
]

-- a literal of the clause is open, and each other one is false
record IsForcing (f : ℤ → Bool) (c : List ℤ) (l : ℤ) : Type 0 where
  here : Contains c l
  open_at : f l ≡ false
  not_true : f (neg_ℤ l) ≡ false
  others : AreOthersFalse f c l

-- what a clause comes to: quiet, false, or it forces a literal
abbrev ComesTo : (ℤ → Bool) → List ℤ → Type 0
ComesTo f c = IsQuiet f c ⊎ (IsFalse f c ⊎ ((l : ℤ) × IsForcing f c l))

by_value : (f : ℤ → Bool) (c : List ℤ) (l : ℤ) → Contains c l → f l ≡ false → AreOthersFalse f c l → (b : Bool) → f (neg_ℤ l) ≡ b → ComesTo f c
by_value f c l here off others true e = inl (quiet_by_true f c l (λ on. false≢true (sym off ∙ on)) here e)
by_value f c l here off others false e = inr (inr (l, record { here = here; open_at = off; not_true = e; others = others }))

-- an open literal other than l
is_other : (ℤ → Bool) → ℤ → ℤ → Bool
is_other f l m = not (f m) && not (eqb (code_of m) (code_of l))

others_false : (f : ℤ → Bool) (l m : ℤ) → is_other f l m ≡ false → m ≢ l → f m ≡ true
unfolding is_other
others_false f l m off ne = elim (and_cases (not (f m)) (not (eqb (code_of m) (code_of l))) off) [
  | inl a ↦ not-false (f m) a
  | inr b ↦ absurd (ne (code_apart m l (eqb-true (code_of m) (code_of l) (not-false (eqb (code_of m) (code_of l)) b))))
]

with_open : (f : ℤ → Bool) (c : List ℤ) (l : ℤ) → Contains c l → f l ≡ false
    → ((m : ℤ) × Contains c m × (is_other f l m ≡ true)) ⊎ All (λ m. is_other f l m ≡ false) c → ComesTo f c
unfolding is_other
with_open f c l here off found = elim found [
  | inl some ↦ let (m, m_here, on) = some in
      let parts : (not (f m) ≡ true) × (not (eqb (code_of m) (code_of l)) ≡ true) = and_parts (not (f m)) (not (eqb (code_of m) (code_of l))) on in
      let ne : m ≢ l = λ e. eqb-false (code_of m) (code_of l) (not-true (eqb (code_of m) (code_of l)) parts.1) (ap code_of e) in
      inl (quiet_by_two f c m l m_here here ne (not-true (f m) parts.0) off)
  | inr none ↦ by_value f c l here off (All-weaker (λ m. is_other f l m ≡ false) (λ m. m ≢ l → f m ≡ true) (λ m o. others_false f l m o) c none) (f (neg_ℤ l)) refl
]

comes_to : (f : ℤ → Bool) (c : List ℤ) → ComesTo f c
comes_to f c = elim (find_or_none (λ l. not (f l)) c) [
  | inl some ↦ let (l, here, on) = some in with_open f c l here (not-true (f l) on) (find_or_none (is_other f l) c)
  | inr none ↦ inr (inl (All-weaker (λ l. not (f l) ≡ false) (λ l. f l ≡ true) (λ l e. not-false (f l) e) c none))
]

-- the first clause that isn't quiet
all_come_to : (f : ℤ → Bool) (cs : List (List ℤ))
    → All (IsQuiet f) cs ⊎ ((c : List ℤ) × Contains cs c × (IsFalse f c ⊎ ((l : ℤ) × IsForcing f c l)))
all_come_to f [] = inl (All-nil (IsQuiet f))
all_come_to f (c ∷ cs) = elim (comes_to f c) [
  | inl quiet ↦ elim (all_come_to f cs) [
    | inl rest ↦ inl (All-cons (IsQuiet f) c cs quiet rest)
    | inr some ↦ let (d, here, what) = some in inr (d, at_tail c cs d here, what)
  ]
  | inr what ↦ inr (c, at_head c cs, what)
]

-- all literals of some clauses
literals_in : List (List ℤ) → List ℤ
literals_in [] = []
literals_in (c ∷ cs) = c ++ literals_in cs

in_literals : (cs : List (List ℤ)) (c : List ℤ) (l : ℤ) → Contains cs c → Contains c l → Contains (literals_in cs) l
unfolding literals_in
in_literals [] c l here there = let (k, lt, e) = here in absurd (omega arith)
in_literals (d ∷ cs) c l here there = elim (cons_cases d cs c here) [
  | inl e ↦ Contains-append_left d (literals_in cs) l (subst (λ (x : List ℤ). Contains x l) (sym e) there)
  | inr h ↦ Contains-append_right d (literals_in cs) l (in_literals cs c l h there)
]

-- how many of the literals aren't true yet
left_open : (ℤ → Bool) → List ℤ → ℕ
left_open f [] = 0
left_open f (l ∷ ls) = cond {A = ℕ} (f (neg_ℤ l)) 0 1 + left_open f ls

one_le : (a b : Bool) → (a ≡ true → b ≡ true) → cond {A = ℕ} b 0 1 ≤ cond {A = ℕ} a 0 1
one_le true true h = omega arith
one_le true false h = absurd (false≢true (h refl))
one_le false true h = omega arith
one_le false false h = omega arith

fewer : (f g : ℤ → Bool) (ls : List ℤ) → ((l : ℤ) → f l ≡ true → g l ≡ true) → left_open g ls ≤ left_open f ls
unfolding left_open
fewer f g [] grows = omega arith
fewer f g (l ∷ ls) grows = omega (arith, one_le (f (neg_ℤ l)) (g (neg_ℤ l)) (grows (neg_ℤ l)), fewer f g ls grows)

one_less : (a b : Bool) → a ≡ false → b ≡ true → cond {A = ℕ} b 0 1 + 1 ≤ cond {A = ℕ} a 0 1
one_less true b e h = absurd (false≢true (sym e))
one_less false true e h = omega arith
one_less false false e h = absurd (false≢true h)

fewer_at : (f g : ℤ → Bool) (ls : List ℤ) (l : ℤ) → ((m : ℤ) → f m ≡ true → g m ≡ true) → Contains ls l → f (neg_ℤ l) ≡ false → g (neg_ℤ l) ≡ true
    → left_open g ls < left_open f ls
unfolding left_open
fewer_at f g [] l grows here off on = let (k, lt, e) = here in absurd (omega arith)
fewer_at f g (m ∷ ls) l grows here off on = elim (cons_cases m ls l here) [
  | inl e ↦ omega (arith, one_less (f (neg_ℤ m)) (g (neg_ℤ m)) (ap (λ x. f (neg_ℤ x)) e ∙ off) (ap (λ x. g (neg_ℤ x)) e ∙ on), fewer f g ls grows)
  | inr h ↦ omega (arith, one_le (f (neg_ℤ m)) (g (neg_ℤ m)) (grows (neg_ℤ m)), fewer_at f g ls l grows h off on)
]

module _ (clauses : List (List ℤ)) (clause : List ℤ) where
  -- propagation ends in a conflict, or in a closed set that has the clause's literals
  End : Type 0
  End = Follows clauses clause ⊎ ((f : ℤ → Bool) × IsFalse f clause × All (IsQuiet f) clauses)

  -- each literal of the list was made false
  AreAdded : List ℤ → Type 0
  AreAdded ms = (l : ℤ) → has ms l ≡ true → Adds clauses clause (neg_ℤ l)

  added_more : (ms c : List ℤ) (l : ℤ) → AreAdded ms → Contains clauses c → IsForcing (has ms) c l → AreAdded (neg_ℤ l ∷ ms)
  unfolding has AreAdded
  added_more ms c l added is_clause forcing m on = elim (or_cases (eqb (code_of (neg_ℤ l)) (code_of m)) (has ms m) on) [
    | inl e ↦ subst (Adds clauses clause) (sym (neg-neg l) ∙ ap neg_ℤ (code_apart (neg_ℤ l) m (eqb-true (code_of (neg_ℤ l)) (code_of m) e)))
        (only c l is_clause forcing.here (λ k k_here ne. added k (All-contains (λ x. x ≢ l → has ms x ≡ true) c k forcing.others k_here ne)))
    | inr h ↦ added m h
  ]

  saturate : (n : ℕ) (ms : List ℤ) → left_open (has ms) (literals_in clauses) < n → AreAdded ms → ((l : ℤ) → Contains clause l → has ms l ≡ true) → End
  unfolding End has AreAdded
  saturate zero ms lt added all = absurd (omega arith)
  saturate (suc n) ms lt added all = elim (all_come_to (has ms) clauses) [
    | inl quiet ↦ inr (has ms, All-weaker (Contains clause) (λ l. has ms l ≡ true) all clause (All-contains_itself clause), quiet)
    | inr some ↦ let (c, is_clause, what) = some in elim what [
      | inl bad ↦ inl (falsified c is_clause (λ m here. added m (All-contains (λ l. has ms l ≡ true) c m bad here)))
      | inr forcing ↦ let (l, forces) = forcing in
          let grows : (m : ℤ) → has ms m ≡ true → has (neg_ℤ l ∷ ms) m ≡ true = λ m on. or_right (eqb (code_of (neg_ℤ l)) (code_of m)) (has ms m) on in
          let on : has (neg_ℤ l ∷ ms) (neg_ℤ l) ≡ true = or_left (eqb (code_of (neg_ℤ l)) (code_of (neg_ℤ l))) (has ms (neg_ℤ l)) (eq-eqb (code_of (neg_ℤ l)) (code_of (neg_ℤ l)) refl) in
          let less : left_open (has (neg_ℤ l ∷ ms)) (literals_in clauses) < left_open (has ms) (literals_in clauses) =
          fewer_at (has ms) (has (neg_ℤ l ∷ ms)) (literals_in clauses) l grows (in_literals clauses c l is_clause forces.here) forces.not_true on in
          saturate n (neg_ℤ l ∷ ms) (omega (arith, less)) (added_more ms c l added is_clause forces) (λ m here. grows m (all m here))
    ]
  ]

  start : ((l : ℤ) → has clause l ≡ true → Adds clauses clause (neg_ℤ l)) → End
  unfolding AreAdded
  start added = saturate (left_open (has clause) (literals_in clauses) + 1) clause (omega arith) added (λ l here. contains_has clause l here)

  -- a clause follows that no set resists
  pub follows_if_none : NoneResists clauses clause → Follows clauses clause
  unfolding End
  follows_if_none none = elim (find_or_none (λ l. has clause (neg_ℤ l)) clause) [
    | inl some ↦ let (l, here, on) = some in opposed l here (has_contains clause (neg_ℤ l) on)
    | inr apart ↦ elim (start (λ l on. assumed l (has_contains clause l on))) [
      | inl follows ↦ follows
      | inr rest ↦ let (f, all, quiet) = rest in absurd (none f (record {
        assumed = all;
        apart = All-weaker (λ l. has clause (neg_ℤ l) ≡ false) (λ l. Contains clause (neg_ℤ l) → ⊥)
            (λ l off other. false≢true (sym off ∙ contains_has clause (neg_ℤ l) other)) clause apart;
        quiet = quiet;
      }))
    ]
  ]
