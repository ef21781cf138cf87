-- The lanes of a table, chosen argument by argument.
use Rattle.std.proofs.Common.{◌≡◌, ℕ, suc, ◌+◌, ◌-◌, ◌*◌, ◌^◌, ◌<◌, ◌≤◌, cond, Bool, true, false, List, [], ◌∷◌, length, take, drop, get_or, if◌then◌else◌, refl, sym, ap, ◌∙◌, arith, slice_index, slice_index_or}
use Rattle.std.proofs.Math.Nat.{pow-suc}
use Rattle.std.proofs.Math.Pow.{pow_mono}
use Rattle.std.proofs.Math.Seq.{take-length}
use Rattle.design_cell.specs.declared.value.Value.{Value}
use Rattle.law_model.specs.Mask.{mask_of}
use Rattle.decide_nodes.specs.Lanes.{HasLanes, in_lane}
use Rattle.decide_nodes.specs.Choice.{number_at, value_at}

abbrev others : List (List ℕ) → List (List ℕ)
others xs = take (length xs - 1) (drop 1 xs)

tail_is : (x : List ℕ) (xs : List (List ℕ)) → take (length (x ∷ xs) - 1) (drop 1 (x ∷ xs)) ≡ xs
tail_is x xs = (let less : length (x ∷ xs) - 1 ≡ length xs = omega arith in ap (λ n. take n xs) less ∙ take-length xs)

-- Half as many values for each choice of bits of one argument less.
pub halved : (xs : List (List ℕ)) (values weight : ℕ) → 1 ≤ length xs → values ≡ weight * 2 ^ length xs
    → values ≡ 2 * weight * 2 ^ length (take (length xs - 1) (drop 1 xs))
halved [] values weight some is = absurd (omega (arith, some))
halved (x ∷ xs) values weight some is =
    is ∙ ap (λ p. weight * p) (pow-suc 2 (length xs)) ∙ turn (2 ^ length xs)
    ∙ ap (λ (ys : List (List ℕ)). 2 * weight * 2 ^ length ys) (sym (tail_is x xs))
  where
    turn : (p : ℕ) → weight * (p * 2) ≡ 2 * weight * p
    turn p = omega arith

pub rest_shorter : (xs : List (List ℕ)) → 1 ≤ length xs → length (take (length xs - 1) (drop 1 xs)) < length xs
rest_shorter [] some = absurd (omega (arith, some))
rest_shorter (x ∷ xs) some = rw (tail_is x xs) (omega arith)

pub few_values : (xs : List (List ℕ)) (values : ℕ) → length xs ≤ 13 → values ≡ 2 ^ length xs → values ≤ 8192
few_values xs values few is = (let up = pow_mono {i = length xs} {j = 13} few in omega (arith, up, is))

number_split : (xs : List (List ℕ)) (lane : ℕ) → 1 ≤ length xs
    → number_at xs lane ≡ cond (in_lane (get_or xs 0 []) lane) 1 0 + 2 * number_at (others xs) lane
number_split [] lane some = absurd (omega (arith, some))
number_split (x ∷ xs) lane some =
    ap (λ (ys : List (List ℕ)). cond (in_lane x lane) 1 0 + 2 * number_at ys lane) (sym (tail_is x xs))

index_of : (b : Bool) (base weight m : ℕ)
    → (if b then base + weight + 2 * weight * m else base + 2 * weight * m) ≡ base + weight * (cond b 1 0 + 2 * m)
index_of true base weight m = omega arith
index_of false base weight m = omega arith

if_same : (v : ℕ → Bool) (b : Bool) (x y : ℕ) → (if b then v x else v y) ≡ v (if b then x else y)
if_same v true x y = refl
if_same v false x y = refl

-- The first argument chooses.
pub chosen_half : (arguments : List (List ℕ)) (values : List Value) (own low high lane_bits all : List ℕ)
    (base weight : ℕ) → 1 ≤ length arguments → lane_bits ≡ get_or arguments 0 []
    → HasLanes low (λ lane. value_at values (base + 2 * weight * number_at (take (length arguments - 1) (drop 1 arguments))
    lane) (in_lane own lane))
    → HasLanes high (λ lane. value_at values (base + weight + 2 * weight
    * number_at (take (length arguments - 1) (drop 1 arguments)) lane) (in_lane own lane))
    → HasLanes all (λ lane. if in_lane lane_bits lane then in_lane high lane else in_lane low lane)
    → HasLanes all (λ lane. value_at values (base + weight * number_at arguments lane) (in_lane own lane))
chosen_half arguments values own low high lane_bits all base weight some is has_low has_high chooses lane less =
    chooses lane less ∙ rw (is, has_low lane less, has_high lane less) refl
    ∙ if_same (λ n. value_at values n (in_lane own lane)) (in_lane (get_or arguments 0 []) lane) _ _
    ∙ ap (λ n. value_at values n (in_lane own lane)) (index_of (in_lane (get_or arguments 0 []) lane) base weight
    (number_at (others arguments) lane) ∙ ap (λ m. base + weight * m) (sym (number_split arguments lane some)))

-- The number that the first of some lanes have, one for each place, is that of the places' bits.
pub number_is : (places : List ℕ) (given : List (List ℕ)) (bits : ℕ → Bool) (lane : ℕ) → length places ≤ length given
    → ((k : ℕ) → k < length places → in_lane (slice_index_or given k []) lane ≡ bits (slice_index places k))
    → number_at (take (length places) given) lane ≡ mask_of places bits
number_is [] given bits lane few same = refl
number_is (p ∷ ps) [] bits lane few same = absurd (omega arith)
number_is (p ∷ ps) (g ∷ gs) bits lane few same =
    rw (same 0 (omega arith), number_is ps gs bits lane (omega arith) (λ k less. same (suc k) (omega arith))) refl
