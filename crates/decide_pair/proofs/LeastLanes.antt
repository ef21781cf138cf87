-- The lane of a 1, as it is found among the lanes whose numbers have some ones.
use Rattle.std.proofs.Common.{◌≡◌, ℕ, zero, suc, ◌+◌, ◌/◌, ◌^◌, ◌<◌, ◌≤◌, ◌==◌, ◌&&◌, true, false, List, refl, sym, ap, ◌∙◌, arith, ⊎_elim}
use Rattle.std.proofs.Math.Nat.{pow-suc}
use Rattle.std.proofs.lemmas.Bool.{agree_below, agree_below_at, and_parts, cases_Bool, cases_eq, eq-eqb, eqb-true}
use Rattle.std.specs.Int.Count.{ones, ones_step}
use Rattle.std.specs.Prelude.{count_ones}
use Rattle.decide_nodes.specs.Lanes.{HasLanes, HasNone, IsOne, in_lane}
use Rattle.decide_pair.specs.Pairs.{IsLeast}

-- The lanes whose numbers have fewer ones than some have no 1.
abbrev pub NoneWithFewer : List ℕ → ℕ → Type 0
NoneWithFewer lane_bits count = (lane : ℕ) → lane < 256 → in_lane lane_bits lane ≡ true → count ≤ count_ones lane

module _ (lane_bits some both : List ℕ) (count : ℕ) (are : HasLanes some (λ lane. count_ones lane == count))
    (each : HasLanes both (λ lane. in_lane lane_bits lane && in_lane some lane)) (before : NoneWithFewer lane_bits count)
  where
    pub none_more : HasNone both → NoneWithFewer lane_bits (count + 1)
    none_more none lane less one =
        let low = before lane less one in
        let bit : in_lane lane_bits lane && (count_ones lane == count) ≡ false =
        ap (λ b. in_lane lane_bits lane && b) (sym (are lane less)) ∙ sym (each lane less) ∙ none lane less in
        ⊎_elim
        (λ (same : count_ones lane ≡ count).
        absurd (let e : true ≡ false = sym (rw (one, eq-eqb (count_ones lane) count same) refl) ∙ bit in cc))
        (λ (other : count_ones lane ≡ count → ⊥). omega (arith, low, other)) (cases_eq (count_ones lane) count)

    pub least_found : (lane : ℕ) → IsOne both lane → IsLeast lane_bits lane
    least_found lane found =
        let parts = and_parts (in_lane lane_bits lane) (count_ones lane == count)
        (ap (λ b. in_lane lane_bits lane && b) (sym (are lane found.0)) ∙ sym (each lane found.0) ∙ found.1) in
        let same = eqb-true (count_ones lane) count parts.1 in
        record {
          within = found.0;
          one = parts.0;
          least = λ other less one. (let low = before other less one in omega (arith, same, low));
        }

no_ones : count_ones 0 ≡ 0
unfolding ones
no_ones = refl

-- A number below 2 to the k has at most k ones.
ones_few : (k n : ℕ) → n < 2 ^ k → count_ones n ≤ k
ones_few zero n less = let none : n ≡ 0 = omega arith in rw (none, no_ones) (omega arith)
ones_few (suc k) n less =
    let double = pow-suc 2 k in
    let few = ones_few k (n / 2) (omega (arith, less, double)) in
    omega (arith, ones_step n, few)

pub none_left : (lane_bits : List ℕ) (count : ℕ) → 9 ≤ count → NoneWithFewer lane_bits count → HasNone lane_bits
none_left lane_bits count all before lane less = ⊎_elim
    (λ (one : in_lane lane_bits lane ≡ true).
    absurd (let many = before lane less one in let few = ones_few 8 lane less in omega (arith, many, few, all)))
    (λ (none : in_lane lane_bits lane ≡ false). none) (cases_Bool (in_lane lane_bits lane))

pub with_by_lanes : (lane_bits : List ℕ) (count : ℕ)
    → agree_below (in_lane lane_bits) (λ lane. count_ones lane == count) 256 ≡ true
    → HasLanes lane_bits (λ lane. count_ones lane == count)
with_by_lanes lane_bits count agree lane less =
    agree_below_at (in_lane lane_bits) (λ lane. count_ones lane == count) 256 lane agree less
