-- Clauses of choices, over any literals: a valuation obeys a table where all its clauses are true.
use Rattle.std.proofs.Common.{◌≡◌, ℕ, zero, suc, ◌+◌, ◌<◌, ◌≤◌, ◌==◌, ◌&&◌, ◌||◌, not, Bool, true, false, List, [], ◌∷◌, map, length, refl, sym, ap, ◌∙◌, arith, subst, inl, inr, ⊎_elim, Contains, slice_index_or, if◌then◌else◌}
use Rattle.std.specs.Prelude.{ℤ, nat_abs}
use Rattle.std.specs.List.{list_any}
use Rattle.std.specs.List.Sorted.{IsStrictlyIncreasing}
use Rattle.std.proofs.lemmas.Bool.{cases_Bool, and_parts, and_from, or_cases, eqb-true, eq-eqb}
use Rattle.std.proofs.lemmas.Bool.Decides.{eqb_tells}
use Rattle.design_cell.specs.declared.value.Value.{Value}
use Rattle.design_cell.specs.Value.{bit_value}
use Rattle.design_circuit.proofs.Rules.{AgreeOn}
use Rattle.sat_proof.specs.Assignment.{value_of, IsMet}
use Rattle.law_model.specs.Places.{among, places_where}
use Rattle.law_model.specs.Assignment.{with_bit}
use Rattle.law_model.specs.Class.{flipped}
use Rattle.law_model.specs.Query.{signed, Forces, IsChoice, IsClause}
use Rattle.law_model.proofs.MetClauses.{Says, value_signed, is_bit}
use Rattle.law_model.proofs.PlacesWhere.{or_left, or_right, any_in, in_any, in_picked, picked_in, picked_rises, among_all}

-- How many of some places are chosen.
abbrev one : Bool → ℕ
one b = if b then 1 else 0

count : (ℕ → Bool) → List ℕ → ℕ
count chosen [] = 0
count chosen (x ∷ xs) = one (chosen x) + count chosen xs

one_less : (chosen : ℕ → Bool) (k x : ℕ) → one (with_bit k false chosen x) ≤ one (chosen x)
one_less chosen k x = elim (eqb_tells x k) as (λ _. one (with_bit k false chosen x) ≤ one (chosen x)) [
  | inl p ↦ rw p.0 (omega arith)
  | inr p ↦ rw p.0 (omega arith)
]

no_more : (chosen : ℕ → Bool) (k : ℕ) (xs : List ℕ) → count (with_bit k false chosen) xs ≤ count chosen xs
unfolding count
no_more chosen k [] = omega arith
no_more chosen k (x ∷ xs) = (let ih = no_more chosen k xs in let here = one_less chosen k x in omega (arith, ih, here))

taken_out : (chosen : ℕ → Bool) (k x : ℕ) → (x == k) ≡ true → chosen k ≡ true
    → one (with_bit k false chosen x) < one (chosen x)
taken_out chosen k x same taken = rw (same, ap chosen (eqb-true x k same) ∙ taken) (omega arith)

fewer : (chosen : ℕ → Bool) (k : ℕ) (xs : List ℕ) → chosen k ≡ true → among xs k ≡ true
    → count (with_bit k false chosen) xs < count chosen xs
unfolding count
fewer chosen k [] taken at = cc
fewer chosen k (x ∷ xs) taken at =
    ⊎_elim (λ (same : (x == k) ≡ true). (let here = taken_out chosen k x same taken in let rest = no_more chosen k
    xs in omega (arith, here, rest))) (λ (deeper : among xs k ≡ true).
    (let here = one_less chosen k x in let rest = fewer chosen k xs taken deeper in omega (arith, here, rest)))
    (or_cases (x == k) (among xs k) at)

pub still : (chosen : ℕ → Bool) (k i : ℕ) → with_bit k false chosen i ≡ true → chosen i ≡ true
still chosen k i taken = elim (eqb_tells i k) as (λ _. chosen i ≡ true) [
  | inl p ↦ (let e : false ≡ true = rw p.0 at taken in cc)
  | inr p ↦ rw p.0 at taken
]

-- Literals of variables.
abs_signed : (n : ℕ) (bit : Bool) → nat_abs (signed n bit) ≡ suc n
abs_signed n true = refl
abs_signed n false = refl

abs_all : (bits : ℕ → Bool) (ns : List ℕ) → map nat_abs (map (λ n. signed n (bits n)) ns) ≡ map suc ns
abs_all bits [] = refl
abs_all bits (n ∷ ns) = rw (abs_signed n (bits n), abs_all bits ns) refl

map_suc_at : (ns : List ℕ) (k : ℕ) → k < length ns → slice_index_or (map suc ns) k 0 ≡ suc (slice_index_or ns k 0)
map_suc_at [] k less = absurd (omega arith)
map_suc_at (n ∷ ns) zero less = refl
map_suc_at (n ∷ ns) (suc k) less = map_suc_at ns k (omega arith)

length_suc : (ns : List ℕ) → length (map suc ns) ≡ length ns
length_suc [] = refl
length_suc (n ∷ ns) = ap suc (length_suc ns)

rises_suc : (ns : List ℕ) → IsStrictlyIncreasing ns → IsStrictlyIncreasing (map suc ns)
rises_suc ns rises k less =
    let long = length_suc ns in
    let within : k + 1 < length ns = omega (arith, long, less) in
    let first = map_suc_at ns k (omega (arith, within)) in
    let second = map_suc_at ns (k + 1) within in
    let up = rises k within in
    omega (arith, first, second, up)

map_contains : (f : ℕ → ℤ) (ns : List ℕ) (n : ℕ) → among ns n ≡ true → Contains (map f ns) (f n)
map_contains f [] n at = cc
map_contains f (m ∷ ns) n at =
    ⊎_elim (λ (same : (m == n) ≡ true). subst (λ i. Contains (map f (m ∷ ns)) (f i)) (eqb-true m n same)
    (0, omega arith, refl)) (λ (deeper : among ns n ≡ true).
    (let rest = map_contains f ns n deeper in (suc rest.0, (let less = rest.1 in omega (arith, less)), rest.2)))
    (or_cases (m == n) (among ns n) at)

contains_map : (f : ℕ → ℤ) (ns : List ℕ) (l : ℤ) → Contains (map f ns) l → (n : ℕ) × (among ns n ≡ true) × (l ≡ f n)
contains_map f [] l at = absurd (let less = at.1 in omega arith)
contains_map f (m ∷ ns) l (zero, less, is) = (m, or_left (m == m) (among ns m) (eq-eqb m m refl), sym is)
contains_map f (m ∷ ns) l (suc k, less, is) =
    let rest = contains_map f ns l (k, omega arith, is) in
    (rest.0, or_right (m == rest.0) (among ns rest.0) rest.1, rest.2)

other_of : (sign x : Bool) → flipped (not sign) x ≡ false → sign ≡ not x
other_of false false off = cc
other_of false true off = refl
other_of true false off = refl
other_of true true off = cc

never : (x : Bool) → flipped (not (not x)) x ≡ true → ⊥
never false on = cc
never true on = cc

denied : (x : Bool) → flipped (not (not x)) x ≡ false
denied false = refl
denied true = refl

-- Literals whose variables are below a bound say what the bits of places are; one place hasn't a bit; and the clauses
-- of all choices of the bits that there are for it are true.
pub record Setting (says : ℕ → Bool → ℤ) (model v : ℕ → Bool) (arguments : List ℕ) (table : (ℕ → Bool) → Value)
    (place : ℕ) (bit : Bool) : Type 0 where
  pub number : ℕ → ℕ
  pub inverted : ℕ → Bool
  pub bound : ℕ
  pub shape : (k : ℕ) (b : Bool) → says k b ≡ signed (number k) (flipped (inverted k) b)
  pub low : (k : ℕ) → number k < bound
  pub truth : (k : ℕ) → Says says model v k
  pub off : flipped (not bit) (v place) ≡ false
  pub met : (chosen : ℕ → Bool) (clause : List ℤ) → IsChoice arguments table chosen v bit
      → IsClause says place chosen v bit clause → IsMet model clause

module _ (says : ℕ → Bool → ℤ) (model v : ℕ → Bool) (arguments : List ℕ) (table : (ℕ → Bool) → Value) (place : ℕ)
    (bit : Bool) (s : Setting says model v arguments table place bit) where
  -- the literal of a variable that is false
  false_of : ℕ → ℤ
  false_of n = signed n (not (model n))

  -- a literal that is false is that of its variable
  is_false : (k : ℕ) (b : Bool) → flipped (not b) (v k) ≡ false
      → says k b ≡ signed (s.number k) (not (model (s.number k)))
  is_false k b off =
      let sign = flipped (s.inverted k) b in
      let value : flipped (not sign) (model (s.number k)) ≡ false = sym (value_signed model (s.number k) sign)
      ∙ ap (value_of model) (sym (s.shape k b)) ∙ s.truth k b ∙ off in
      s.shape k b ∙ ap (signed (s.number k)) (other_of sign (model (s.number k)) value)

  occurs : (ℕ → Bool) → ℕ → Bool
  occurs chosen n = (s.number place == n) || list_any (λ k. chosen k && (s.number k == n)) arguments

  clause_of : (ℕ → Bool) → List ℤ
  clause_of chosen = map (λ n. signed n (not (model n))) (places_where (occurs chosen) s.bound)

  clause_is : (chosen : ℕ → Bool) → ((k : ℕ) → chosen k ≡ true → among arguments k ≡ true)
      → IsClause says place chosen v bit (clause_of chosen)
  unfolding clause_of occurs
  clause_is chosen inside = record {
    ascends = subst IsStrictlyIncreasing (sym (abs_all (λ n. not (model n)) (places_where (occurs chosen) s.bound)))
        (rises_suc (places_where (occurs chosen) s.bound) (picked_rises (occurs chosen) s.bound));
    denies = λ k taken. subst (Contains (clause_of chosen)) (sym (is_false k (not (v k)) (denied (v k))))
        (map_contains (λ n. signed n (not (model n))) (places_where (occurs chosen) s.bound) (s.number k)
        (picked_in (occurs chosen) s.bound (s.number k) (s.low k)
        (or_right (s.number place == s.number k) _
        (any_in (λ i. chosen i && (s.number i == s.number k)) arguments k (inside k taken)
        (and_from (chosen k) (s.number k == s.number k) taken (eq-eqb (s.number k) (s.number k) refl))))));
    gives = subst (Contains (clause_of chosen)) (sym (is_false place bit s.off))
        (map_contains (λ n. signed n (not (model n))) (places_where (occurs chosen) s.bound) (s.number place)
        (picked_in (occurs chosen) s.bound (s.number place) (s.low place)
        (or_left (s.number place == s.number place) _ (eq-eqb (s.number place) (s.number place) refl))));
    no_other = λ l at. (let of = contains_map (λ n. signed n (not (model n))) (places_where (occurs chosen) s.bound)
        l at in
        ⊎_elim (λ (same : (s.number place == of.0) ≡ true). inl
        (of.2 ∙ sym (is_false place bit s.off ∙ ap (λ n. signed n (not (model n)))
        (eqb-true (s.number place) of.0 same)))) (λ (found : list_any (λ k. chosen k && (s.number k == of.0))
        arguments ≡ true). (let k = in_any (λ k. chosen k && (s.number k == of.0)) arguments found in let parts =
        and_parts (chosen k.0) (s.number k.0 == of.0) k.2 in inr (
          k.0,
          parts.0,
          of.2 ∙ sym (is_false k.0 (not (v k.0)) (denied (v k.0))
              ∙ ap (λ n. signed n (not (model n))) (eqb-true (s.number k.0) of.0 parts.1)),
        )))
        (or_cases (s.number place == of.0) _ (in_picked (occurs chosen) s.bound of.0 of.1).1));
  }

  -- no literal of the clause is true
  none_met : (chosen : ℕ → Bool) → IsMet model (clause_of chosen) → ⊥
  unfolding clause_of
  none_met chosen (l, at, on) =
      let of = contains_map (λ n. signed n (not (model n))) (places_where (occurs chosen) s.bound) l at in
      never (model of.0) (sym (value_signed model of.0 (not (model of.0))) ∙ ap (value_of model) (sym of.2) ∙ on)

  -- so no choice of the bits that there are forces the other bit
  none_forces : (n : ℕ) (chosen : ℕ → Bool) → count chosen arguments < n
      → ((k : ℕ) → chosen k ≡ true → among arguments k ≡ true) → Forces table chosen v bit → ⊥
  none_forces zero chosen few inside forces = omega arith
  none_forces (suc n) chosen few inside forces =
      none_met chosen (s.met chosen (clause_of chosen) (record {
        among_arguments = inside;
        forces = forces;
        minimal = λ k taken forced. none_forces n (with_bit k false chosen)
            (let less = fewer chosen k arguments taken (inside k taken) in omega (arith, less, few))
            (λ i kept. inside i (still chosen k i kept)) forced;
      }) (clause_is chosen inside))

-- Where the table reads the arguments alone, and the clauses of all choices are true, the place has the bit that the
-- table gives.
pub obeys : (says : ℕ → Bool → ℤ) (model v : ℕ → Bool) (arguments : List ℕ) (table : (ℕ → Bool) → Value) (place : ℕ)
    (bit : Bool) → (flipped (not bit) (v place) ≡ false → Setting says model v arguments table place bit)
    → ((f g : ℕ → Bool) → AgreeOn f g arguments → table f ≡ table g) → table v ≡ bit_value bit → v place ≡ bit
obeys says model v arguments table place bit setting reads gives =
    ⊎_elim (λ (on : flipped (not bit) (v place) ≡ true). is_bit (v place) bit on)
    (λ (off : flipped (not bit) (v place) ≡ false).
    absurd (none_forces says model v arguments table place bit (setting off)
    (suc (count (among arguments) arguments)) (among arguments) (omega arith) (λ k at. at)
    (λ others agree. reads others v (among_all (λ k. others k ≡ v k) arguments agree) ∙ gives)))
    (cases_Bool (flipped (not bit) (v place)))
