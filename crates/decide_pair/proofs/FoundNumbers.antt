-- Numbers with the least ones, from block to block.
use Rattle.std.proofs.Common.{◌≡◌, ℕ, ◌+◌, ◌-◌, ◌*◌, ◌/◌, ◌%◌, ◌<◌, ◌≤◌, Bool, true, false, not, Option, None, Some, List, refl, ap, ◌∙◌, arith, ⊎_elim}
use Rattle.std.proofs.lemmas.Bool.{cases_lt, leb-true}
use Rattle.std.proofs.lemmas.Bool.Decides.{nat_tests}
use Rattle.std.specs.Int.Count.{ones, ones_step}
use Rattle.std.specs.Prelude.{count_ones, nat_lt, if◌then◌else◌}
use Rattle.decide_nodes.specs.declared.node.Node.{Node}
use Rattle.decide_nodes.specs.Nodes.{nothing, root_bit}
use Rattle.decide_pair.specs.Found.{IsFoundIn, IsLeastIn, IsOther, bit_by, fewer, has_no_fewer}

-- The ones of a number are those of its halves: the block above a lane, bit by bit.
half_step : (n m b l : ℕ) → n % 2 ≡ l % 2 → n / 2 ≡ m → count_ones m ≡ count_ones b + count_ones (l / 2)
    → count_ones n ≡ count_ones b + count_ones l
half_step n m b l low half above = omega (arith, ones_step n, ones_step l, ap count_ones half, above, low)

no_ones : count_ones 0 ≡ 0
unfolding ones
no_ones = refl

ones_1 : (b l : ℕ) → l < 1 → count_ones (1 * b + l) ≡ count_ones b + count_ones l
ones_1 b l less =
    let none : l ≡ 0 = omega arith in
    let whole : 1 * b + l ≡ b = omega arith in
    let empty : count_ones l ≡ 0 = ap count_ones none ∙ no_ones in
    omega (arith, ap count_ones whole, empty)

ones_2 : (b l : ℕ) → l < 2 → count_ones (2 * b + l) ≡ count_ones b + count_ones l
ones_2 b l less = half_step (2 * b + l) (1 * b + l / 2) b l (omega arith) (omega arith) (ones_1 b (l / 2) (omega arith))

ones_4 : (b l : ℕ) → l < 4 → count_ones (4 * b + l) ≡ count_ones b + count_ones l
ones_4 b l less = half_step (4 * b + l) (2 * b + l / 2) b l (omega arith) (omega arith) (ones_2 b (l / 2) (omega arith))

ones_8 : (b l : ℕ) → l < 8 → count_ones (8 * b + l) ≡ count_ones b + count_ones l
ones_8 b l less = half_step (8 * b + l) (4 * b + l / 2) b l (omega arith) (omega arith) (ones_4 b (l / 2) (omega arith))

ones_16 : (b l : ℕ) → l < 16 → count_ones (16 * b + l) ≡ count_ones b + count_ones l
ones_16 b l less =
    half_step (16 * b + l) (8 * b + l / 2) b l (omega arith) (omega arith) (ones_8 b (l / 2) (omega arith))

ones_32 : (b l : ℕ) → l < 32 → count_ones (32 * b + l) ≡ count_ones b + count_ones l
ones_32 b l less =
    half_step (32 * b + l) (16 * b + l / 2) b l (omega arith) (omega arith) (ones_16 b (l / 2) (omega arith))

ones_64 : (b l : ℕ) → l < 64 → count_ones (64 * b + l) ≡ count_ones b + count_ones l
ones_64 b l less =
    half_step (64 * b + l) (32 * b + l / 2) b l (omega arith) (omega arith) (ones_32 b (l / 2) (omega arith))

ones_128 : (b l : ℕ) → l < 128 → count_ones (128 * b + l) ≡ count_ones b + count_ones l
ones_128 b l less =
    half_step (128 * b + l) (64 * b + l / 2) b l (omega arith) (omega arith) (ones_64 b (l / 2) (omega arith))

ones_256 : (b l : ℕ) → l < 256 → count_ones (256 * b + l) ≡ count_ones b + count_ones l
ones_256 b l less =
    half_step (256 * b + l) (128 * b + l / 2) b l (omega arith) (omega arith) (ones_128 b (l / 2) (omega arith))

-- Of two lanes of a block the one with more ones has the number with more ones.
pub more_ones : (block lane rest n : ℕ) → lane < 256 → rest < 256 → 256 * block + rest ≡ n
    → count_ones lane ≤ count_ones rest → count_ones (256 * block + lane) ≤ count_ones n
more_ones block lane rest n lane_less rest_less whole fewer_ones =
    omega (arith, ones_256 block lane lane_less, ones_256 block rest rest_less, ap count_ones whole, fewer_ones)

-- A bit isn't two.
agrees_not : (bit base : Bool) → bit ≡ base → bit ≡ not base → ⊥
agrees_not bit true same other = cc
agrees_not bit false same other = cc

module _ (nodes : List Node) (first mid end : ℕ) (up : first ≤ mid) (on : mid ≤ end) where
  none_other : (n : ℕ) → bit_by nodes n ≡ root_bit nothing nodes → IsOther nodes n → ⊥
  none_other n same other = agrees_not (bit_by nodes n) (root_bit nothing nodes) same other

  -- What is found in two runs of numbers, one behind the other.
  pick : (m n : ℕ) (less : Bool) → nat_lt (count_ones n) (count_ones m) ≡ less → IsLeastIn nodes first mid m
      → IsLeastIn nodes mid end n → IsLeastIn nodes first end (if less then n else m)
  pick m n true is before behind = record {
    above = omega (arith, behind.above);
    below = behind.below;
    other = behind.other;
    least = λ k low high other. ⊎_elim
        (λ (less : k < mid).
        (let bound = before.least k low less other in let order = leb-true _ _ is in omega (arith, bound, order)))
        (λ (more : mid ≤ k). behind.least k more high other) (cases_lt k mid);
  }
  pick m n false is before behind = record {
    above = before.above;
    below = omega (arith, before.below);
    other = before.other;
    least = λ k low high other. ⊎_elim
        (λ (less : k < mid). before.least k low less other)
        (λ (more : mid ≤ k).
        (let bound = behind.least k more high other in
        let order : count_ones m ≤ count_ones n = grind (arith, nat_tests, is) in omega (arith, bound, order)))
        (cases_lt k mid);
  }

  pub found_joined : (found second : Option ℕ) → IsFoundIn nodes first mid found → IsFoundIn nodes mid end second
      → IsFoundIn nodes first end (fewer found second)
  found_joined None None before behind = λ n low high. ⊎_elim
      (λ (less : n < mid). before n low less) (λ (more : mid ≤ n). behind n more high) (cases_lt n mid)
  found_joined None (Some n) before behind = record {
    above = omega (arith, behind.above);
    below = behind.below;
    other = behind.other;
    least = λ k low high other. ⊎_elim
        (λ (less : k < mid). absurd (none_other k (before k low less) other))
        (λ (more : mid ≤ k). behind.least k more high other) (cases_lt k mid);
  }
  found_joined (Some m) None before behind = record {
    above = before.above;
    below = omega (arith, before.below);
    other = before.other;
    least = λ k low high other. ⊎_elim
        (λ (less : k < mid). before.least k low less other)
        (λ (more : mid ≤ k). absurd (none_other k (behind k more high) other)) (cases_lt k mid);
  }
  found_joined (Some m) (Some n) before behind = pick m n (nat_lt (count_ones n) (count_ones m)) refl before behind

-- A block with no fewer ones adds nothing.
pub block_left : (nodes : List Node) (block : ℕ) (found : Option ℕ) → has_no_fewer block found ≡ true
    → IsFoundIn nodes 0 (256 * block) found → IsFoundIn nodes 0 (256 * (block + 1)) found
block_left nodes block None left before = cc
block_left nodes block (Some m) left before = record {
  above = before.above;
  below = omega (arith, before.below);
  other = before.other;
  least = λ k low high other. ⊎_elim
      (λ (less : k < 256 * block). before.least k low less other)
      (λ (more : 256 * block ≤ k).
      (let rest : ℕ = k - 256 * block in
      let rest_less : rest < 256 = omega (arith, more, high) in
      let whole : 256 * block + rest ≡ k = omega (arith, more) in
      omega (arith, leb-true (count_ones m) (count_ones block) left, ones_256 block rest rest_less, ap count_ones whole)))
      (cases_lt k (256 * block));
}
