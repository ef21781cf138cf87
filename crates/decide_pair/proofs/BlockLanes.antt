-- The lanes of sources in a block.
use Rattle.std.proofs.Common.{◌≡◌, ℕ, ◌+◌, ◌-◌, ◌*◌, ◌%◌, ◌^◌, ◌<◌, ◌≤◌, ◌==◌, true, false, List, sym, ap, ◌∙◌, arith}
use Rattle.std.proofs.Math.Nat.{pow-le-pow_right}
use Rattle.std.proofs.lemmas.Nat.{pow-add}
use Rattle.std.proofs.lemmas.Bool.{agree_below, agree_below_at}
use Rattle.std.proofs.lemmas.Nat.Bits.{bit_at_cat_high, bit_at_cat_low}
use Rattle.std.specs.Int.{bit_at}
use Rattle.decide_nodes.specs.Lanes.{HasLanes, in_lane}
use Rattle.decide_nodes.specs.Nodes.{number_bits}
use Rattle.decide_pair.specs.Blocks.{AreLanesOf}

-- The low bits of a number are those of its lane, the others those of its block.
low_bits : (block lane source : ℕ) → source < 8 → number_bits (256 * block + lane) source ≡ number_bits lane source
low_bits block lane source less =
    let turned : 256 * block + lane ≡ block * 2 ^ 8 + lane = omega arith in
    ap (λ n. number_bits n source) turned ∙ ap (λ bit. bit == 1) (bit_at_cat_low block 8 lane source less)

high_bits : (block lane bit : ℕ) → lane < 256 → number_bits (256 * block + lane) (bit + 8) ≡ (bit_at block bit == 1)
high_bits block lane bit less =
    let turned : 256 * block + lane ≡ block * 2 ^ 8 + lane = omega arith in
    let back : bit + 8 - 8 ≡ bit = omega arith in
    ap (λ n. number_bits n (bit + 8)) turned
    ∙ ap (λ b. b == 1) (bit_at_cat_high block 8 lane (bit + 8) less (omega arith) ∙ ap (bit_at block) back)

-- So the lanes of the first eight sources are the same in each block,
pub low_same : (block source : ℕ) (lane_bits : List ℕ) → source < 8 → AreLanesOf 0 source lane_bits → AreLanesOf block source lane_bits
low_same block source lane_bits less is lane within = is lane within
    ∙ low_bits 0 lane source less ∙ sym (low_bits block lane source less)

-- as their bits show, lane by lane;
pub low_by_lanes : (source : ℕ) (lane_bits : List ℕ)
    → agree_below (in_lane lane_bits) (λ lane. number_bits (256 * 0 + lane) source) 256 ≡ true → AreLanesOf 0 source lane_bits
low_by_lanes source lane_bits agree lane less =
    agree_below_at (in_lane lane_bits) (λ lane. number_bits (256 * 0 + lane) source) 256 lane agree less

-- and those of the others have one bit in all lanes.
pub high_ones : (block bit : ℕ) (lane_bits : List ℕ) → bit_at block bit ≡ 1 → HasLanes lane_bits (λ lane. true)
    → AreLanesOf block (bit + 8) lane_bits
high_ones block bit lane_bits one all lane less =
    all lane less ∙ sym (high_bits block lane bit less ∙ ap (λ b. b == 1) one)

pub high_none : (block bit : ℕ) (lane_bits : List ℕ) → (bit_at block bit == 1) ≡ false → HasLanes lane_bits (λ lane. false)
    → AreLanesOf block (bit + 8) lane_bits
high_none block bit lane_bits none all lane less = all lane less ∙ sym (high_bits block lane bit less ∙ none)

-- How many blocks there are.
power_small : (k : ℕ) → k ≤ 8 → 2 ^ k ≤ 256
power_small k low = pow-le-pow_right (omega arith) low

power_smaller : (k : ℕ) → k ≤ 4 → 2 ^ k ≤ 16
power_smaller k low = pow-le-pow_right (omega arith) low

pub one_block : (sources : ℕ) → sources < 8 → 2 ^ sources ≤ 256
one_block sources less = power_small sources (omega arith)

pub more_blocks : (sources : ℕ) → 8 ≤ sources → sources ≤ 16
    → (2 ^ sources ≤ 256 * (1 * 2 ^ (sources - 8) % 2 ^ 64)) × (1 * 2 ^ (sources - 8) % 2 ^ 64 ≤ 256)
more_blocks sources low few =
    let small = power_small (sources - 8) (omega arith) in
    let whole : 8 + (sources - 8) ≡ sources = omega arith in
    let split : 2 ^ sources ≡ 256 * 2 ^ (sources - 8) = ap (λ n. 2 ^ n) (sym whole) ∙ pow-add 2 8 (sources - 8) in
    (omega (arith, small, split), omega (arith, small))

power_some : (k : ℕ) → 0 ≤ k → 2 ^ 0 ≤ 2 ^ k
power_some k low = pow-le-pow_right (omega arith) low

pub some_blocks : (sources : ℕ) → 8 ≤ sources → sources ≤ 16 → 0 < 1 * 2 ^ (sources - 8) % 2 ^ 64
some_blocks sources low few =
    let small = power_small (sources - 8) (omega arith) in
    let some = power_some (sources - 8) (omega arith) in
    omega (arith, small, some)
