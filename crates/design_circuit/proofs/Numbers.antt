-- Places by their numbers.
use Rattle.std.proofs.Common.{◌≡◌, ℕ, ◌*◌, ◌%◌, ◌<◌, ◌≤◌, ◌^◌, ◌==◌, List, [], ◌∷◌, length, map, refl, arith}
use Rattle.std.proofs.Math.Nat.{mod-lt, mul_comm, mul-le-mul, div-lt_iff_lt-mul}
use Rattle.std.specs.List.{AllByRecursion, list_any}
use Rattle.std.specs.List.Sorted.{IsStrictlyIncreasing}
use Rattle.design_circuit.specs.Job.{Job, number_of, net_of, places_of}
use Rattle.design_circuit.specs.Order.{IsOrdering, position_of}
use Rattle.design_circuit.specs.Fits.{place_at}
use Rattle.design_circuit.specs.Filling.{IsPlace, IsFilling, bit_of}
use Rattle.design_circuit.specs.declared.stim.Stim.{Stim}
use Rattle.design_circuit.proofs.OrderLemmas.{position_is}
use Rattle.design_circuit.proofs.Rules.{some_width}

-- The place of a number has that number.
pub number_of_place_at : (j : Job) (place : ℕ) → IsOrdering j.order → length j.order ≡ j.width → place < places_of j → number_of j (place_at j place) ≡ place
number_of_place_at j place ordering all within =
    let some : 0 < j.width = some_width j.width (j.moments * j.rounds) place within in
    let index : place % j.width < j.width = mod-lt place some in
    let at : position_of j.order (net_of j place) ≡ place % j.width = position_is j.order (place % j.width) ordering (omega arith) in
    rw at (omega arith)

-- The place of a number is one of the job's.
pub is_place_at : (j : Job) (place : ℕ) → IsOrdering j.order → length j.order ≡ j.width → place < places_of j → IsPlace j (place_at j place)
is_place_at j place ordering all within =
    let some : 0 < j.width = some_width j.width (j.moments * j.rounds) place within in
    let index : place % j.width < j.width = mod-lt place some in
    let turned : place < (j.moments * j.rounds) * j.width = rw (mul_comm (j.moments * j.rounds) j.width) within in
    record {
      step = (div-lt_iff_lt-mul some).1 turned;
      net = (let low = ordering.below (place % j.width) (omega arith) in omega (arith, low, all));
    }

-- The places of numbers have those numbers.
pub numbers_of_places : (j : Job) (numbers : List ℕ) → IsOrdering j.order → length j.order ≡ j.width → AllByRecursion (λ k. k < places_of j) numbers → map (number_of j) (map (place_at j) numbers) ≡ numbers
numbers_of_places j [] ordering all within = refl
numbers_of_places j (n ∷ numbers) ordering all within =
    rw (number_of_place_at j n ordering all within.0, numbers_of_places j numbers ordering all within.1) refl

are_places : (j : Job) (numbers : List ℕ) → IsOrdering j.order → length j.order ≡ j.width → AllByRecursion (λ k. k < places_of j) numbers → AllByRecursion (IsPlace j) (map (place_at j) numbers)
are_places j [] ordering all within = tt
are_places j (n ∷ numbers) ordering all within = (is_place_at j n ordering all within.0, are_places j numbers ordering all within.1)

-- The places of ascending numbers are a filling.
pub filling_at : (j : Job) (numbers : List ℕ) → IsOrdering j.order → length j.order ≡ j.width → AllByRecursion (λ k. k < places_of j) numbers → IsStrictlyIncreasing numbers → IsFilling j (map (place_at j) numbers)
filling_at j numbers ordering all within ascending = record {
  places = are_places j numbers ordering all within;
  ascending = rw (numbers_of_places j numbers ordering all within) ascending;
}

-- Its bit is 1 at these numbers.
pub bit_of_at : (j : Job) (numbers : List ℕ) (place : ℕ) → IsOrdering j.order → length j.order ≡ j.width → AllByRecursion (λ k. k < places_of j) numbers → bit_of j (map (place_at j) numbers) place ≡ list_any (λ k. k == place) numbers
bit_of_at j [] place ordering all within = refl
bit_of_at j (n ∷ numbers) place ordering all within =
    rw (number_of_place_at j n ordering all within.0, bit_of_at j numbers place ordering all within.1) refl

-- A stimulus has no more steps than a word can count.
pub few_steps : (stim : Stim) → length stim.times * stim.rounds ≤ 2 ^ 32
few_steps stim =
    let moments = stim.few_moments in
    let rounds : stim.rounds ≤ 16 = stim.few_rounds in
    let some : length stim.times ≤ 2 ^ 28 = omega (arith, moments) in
    let most : length stim.times * stim.rounds ≤ 2 ^ 28 * 16 = mul-le-mul some rounds in
    omega (arith, most)
