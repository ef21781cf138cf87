-- Reading a filling in place order.
use Rattle.std.proofs.Common.{◌≡◌, ℕ, suc, ◌+◌, ◌-◌, ◌<◌, ◌≤◌, ◌==◌, false, List, [], ◌∷◌, length, map, take, drop, get_or, refl, sym, subst, arith}
use Rattle.std.proofs.Math.Seq.{take-length}
use Rattle.std.proofs.lemmas.Bool.{ne_eqb}
use Rattle.std.specs.List.{AllByRecursion}
use Rattle.std.specs.List.Sorted.{IsStrictlyIncreasing}
use Rattle.design_circuit.specs.declared.place.Place.{Place}
use Rattle.design_circuit.specs.Filling.{IsFilling, bit_of}
use Rattle.design_circuit.specs.Job.{Job, number_of}
use Rattle.wave_world.specs.Left.{IsLeft}

-- All of a filling is left at its start.
all_from_start : (j : Job) (filling : List Place) → AllByRecursion (λ p. 0 ≤ number_of j p) filling
all_from_start j [] = tt
all_from_start j (first ∷ rest) = (omega arith, all_from_start j rest)

pub all_left : (j : Job) (filling : List Place) → IsFilling j filling → IsLeft j 0 filling
all_left j filling is = record { places = is.places; ascending = is.ascending; low = all_from_start j filling }

rest_ascends : (n : ℕ) (ns : List ℕ) → IsStrictlyIncreasing (n ∷ ns) → IsStrictlyIncreasing ns
rest_ascends n ns ascending k within =
    let same : suc k + 1 ≡ suc (k + 1) = omega arith in
    subst (λ i. get_or ns k 0 < get_or (n ∷ ns) i 0) same (ascending (suc k) (omega arith))

-- The places behind the first are above it.
rest_above : (j : Job) (first : Place) (rest : List Place) (n : ℕ)
    → IsStrictlyIncreasing (map (number_of j) (first ∷ rest)) → n ≤ number_of j first
    → AllByRecursion (λ p. n + 1 ≤ number_of j p) rest
rest_above j first [] n ascending low = tt
rest_above j first (second ∷ rest) n ascending low =
    let less : number_of j first < number_of j second = ascending 0 (omega arith) in
    let others = rest_ascends (number_of j first) (map (number_of j) (second ∷ rest)) ascending in
    (omega (arith, less, low), rest_above j second rest n others (omega (arith, less, low)))

-- The others are left behind the number.
rest_left : (j : Job) (n : ℕ) (first : Place) (rest : List Place) → IsLeft j n (first ∷ rest)
    → IsLeft j (n + 1) rest
rest_left j n first rest is = record {
  places = is.places.1;
  ascending = rest_ascends (number_of j first) (map (number_of j) rest) is.ascending;
  low = rest_above j first rest n is.ascending is.low.0;
}

-- That is what a slice has behind its first place.
tail_is : (first : Place) (rest : List Place) → take (length (first ∷ rest) - 1) rest ≡ rest
tail_is first rest =
    let long : length (first ∷ rest) - 1 ≡ length rest = omega arith in
    subst (λ n. take n rest ≡ rest) (sym long) (take-length rest)

pub behind_left : (j : Job) (n : ℕ) (left : List Place) → 0 < length left → IsLeft j n left
    → IsLeft j (n + 1) (take (length left - 1) (drop 1 left))
behind_left j n [] some is = absurd (omega arith)
behind_left j n (first ∷ rest) some is = subst (IsLeft j (n + 1)) (sym (tail_is first rest)) (rest_left j n first rest is)

-- Where it isn't, all are left behind the number, and none is at it.
pub still_left : (j : Job) (n : ℕ) (left : List Place) (d : Place) → (number_of j (get_or left 0 d) ≡ n → ⊥)
    → IsLeft j n left → IsLeft j (n + 1) left
still_left j n [] d other is = record { places = tt; ascending = is.ascending; low = tt }
still_left j n (first ∷ rest) d other is = record {
  places = is.places;
  ascending = is.ascending;
  low = (let low = is.low.0 in omega (arith, low, other), rest_above j first rest n is.ascending is.low.0);
}

above_none : (j : Job) (n : ℕ) (left : List Place) → AllByRecursion (λ p. n + 1 ≤ number_of j p) left
    → bit_of j left n ≡ false
above_none j n [] low = refl
above_none j n (first ∷ rest) low =
    let other : (number_of j first == n) ≡ false = (let here = low.0 in ne_eqb (number_of j first) n (λ same. omega (arith, same, here))) in
    rw other (above_none j n rest low.1)

pub none_at : (j : Job) (n : ℕ) (left : List Place) → IsLeft j (n + 1) left → bit_of j left n ≡ false
none_at j n left is = above_none j n left is.low
