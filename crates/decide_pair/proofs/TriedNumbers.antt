-- The numbers of the fillings that are tried.
use Rattle.std.proofs.Common.{◌≡◌, ℕ, ◌+◌, ◌-◌, ◌*◌, ◌/◌, ◌%◌, ◌^◌, ◌<◌, ◌≤◌, ◌==◌, not, Bool, true, false, Some, None, List, [], length, sym, ap, ◌∙◌, arith, ⊎_elim}
use Rattle.std.proofs.Math.ListN.{get_or-eq_default}
use Rattle.std.proofs.Math.Path.{fun_ext}
use Rattle.std.proofs.lemmas.Bool.{cases_lt}
use Rattle.std.proofs.lemmas.Nat.Bits.{bit_at_above}
use mathlib.Core.Bool.{beq}
use Rattle.law_model.specs.declared.line.Body.TheVariants.{Enumerated}
use Rattle.wave_proved.specs.Contents.{Contents, next_number}
use Rattle.wave_proved.specs.Token.{HoldsNext}
use Rattle.decide_nodes.proofs.ConeLaws.{chosen_law, enumerated_law}
use Rattle.decide_nodes.proofs.EachLane.{lane_none}
use Rattle.decide_nodes.specs.declared.node.Node.{Node}
use Rattle.decide_nodes.specs.Lanes.{in_lane, lane_of, root_in_lane}
use Rattle.decide_nodes.specs.Nodes.{by_sources, chosen, nothing, number_bits, root_bit, sources_of}
use Rattle.decide_pair.specs.Pairs.{AllAgree, Differs, IsLeastOther}
use Rattle.decide_nodes.specs.Traced.{IsNextCone}
use Rattle.decide_pair.specs.Blocks.{IsBlock}
use Rattle.decide_pair.specs.Found.{AgreeIn, IsFoundOfAll, IsLeastIn, bit_by}
use Rattle.decide_pair.proofs.FoundNumbers.{more_ones}

-- In a lane the lanes of a block are the bits of its number.
pub lane_is : (given : List (List ℕ)) (block lane : ℕ) → length given ≡ 16 → IsBlock block given → lane < 256 → block < 256
    → lane_of given lane ≡ number_bits (256 * block + lane)
lane_is given block lane long is less within = fun_ext (λ source. ⊎_elim
    (λ (low : source < 16). is source low lane less)
    (λ (past : 16 ≤ source). ap (λ lane_bits. in_lane lane_bits lane) (get_or-eq_default given [] (omega (arith, long, past)))
    ∙ lane_none lane ∙ sym (ap (λ bit. bit == 1) (bit_at_above (256 * block + lane) 16 source (omega arith) past)))
    (cases_lt source 16))

-- So the root has in a lane the bit by its number.
pub lane_bit : (nodes : List Node) (given : List (List ℕ)) (block lane : ℕ) → length given ≡ 16 → IsBlock block given
    → lane < 256 → block < 256 → root_in_lane nodes given lane ≡ bit_by nodes (256 * block + lane)
lane_bit nodes given block lane long is less within =
    ap (λ bits. root_bit (by_sources nodes bits) nodes) (lane_is given block lane long is less within)

-- The lane of a number is that of its rest.
pub lane_of_number : (given : List (List ℕ)) (number : ℕ) → length given ≡ 16 → IsBlock (number / 256) given
    → number < 2 ^ 16 → lane_of given (number % 256) ≡ number_bits number
lane_of_number given number long is small =
    let whole : 256 * (number / 256) + number % 256 ≡ number = omega arith in
    lane_is given (number / 256) (number % 256) long is (omega arith) (omega arith) ∙ ap number_bits whole

-- Where the lanes of a block agree with the empty filling, so do its numbers.
pub block_agrees : (nodes : List Node) (given : List (List ℕ)) (block : ℕ) → length given ≡ 16 → IsBlock block given
    → block < 256 → AllAgree nodes given → AgreeIn nodes (256 * block) (256 * (block + 1))
block_agrees nodes given block long is within agree number low high =
    let lane : ℕ = number - 256 * block in
    let less : lane < 256 = omega (arith, low, high) in
    let whole : 256 * block + lane ≡ number = omega (arith, low) in
    ap (bit_by nodes) (sym whole) ∙ sym (lane_bit nodes given block lane long is less within) ∙ agree lane less

-- The number of the lane with the least ones has the least ones.
pub block_least : (nodes : List Node) (given : List (List ℕ)) (block lane : ℕ) → length given ≡ 16 → IsBlock block given
    → block < 256 → IsLeastOther nodes given lane → IsLeastIn nodes (256 * block) (256 * (block + 1)) (256 * block + lane)
block_least nodes given block lane long is within found = record {
  above = omega arith;
  below = omega (arith, found.within);
  other = sym (lane_bit nodes given block lane long is found.within within) ∙ found.differs;
  least = λ n low high other.
      (let rest : ℕ = n - 256 * block in
      let less : rest < 256 = omega (arith, low, high) in
      let whole : 256 * block + rest ≡ n = omega (arith, low) in
      let differs : Differs nodes given rest =
      lane_bit nodes given block rest long is less within ∙ ap (bit_by nodes) whole ∙ other in
      more_ones block lane rest n found.within less whole (found.least rest less differs));
}

-- Where all numbers agree, the place is settled.
pub all_settle : (c : Contents) (nodes : List Node) (n : ℕ) → IsNextCone c nodes → length (sources_of nodes) ≤ c.limits.enumerated
    → 2 ^ length (sources_of nodes) ≤ n → AgreeIn nodes 0 n → HoldsNext c (Enumerated (root_bit nothing nodes))
all_settle c nodes n is few enough agree =
    enumerated_law c (next_number c) nodes (root_bit nothing nodes) is few
    (λ number small. agree number (omega arith) (omega (arith, small, enough)))

pub all_found : (c : Contents) (nodes : List Node) → IsNextCone c nodes → length (sources_of nodes) ≤ c.limits.enumerated
    → IsFoundOfAll nodes None → HoldsNext c (Enumerated (root_bit nothing nodes))
all_found c nodes is few found = all_settle c nodes found.end is few found.enough found.found_is

-- Every filling gives a bit, so the empty one does, and that of each number.
bit_given : (c : Contents) (nodes : List Node) (bit : Bool) (bits : ℕ → Bool) → IsNextCone c nodes
    → HoldsNext c (Enumerated bit) → root_bit (by_sources nodes bits) nodes ≡ bit
bit_given c nodes bit bits is holds =
    let law = chosen_law c (next_number c) nodes bits is in
    sym law.world ∙ holds.each (chosen (sources_of nodes) bits) law.filling law.alone

differ_by : (a b : Bool) → beq a b ≡ false → a ≡ b → ⊥
differ_by true true is same = absurd cc
differ_by true false is same = absurd cc
differ_by false true is same = absurd cc
differ_by false false is same = absurd cc

-- So it is no bit that the empty filling doesn't give, and none where a number gives the other.
pub other_base : (c : Contents) (nodes : List Node) (bit base : Bool) → IsNextCone c nodes → base ≡ root_bit nothing nodes
    → beq base bit ≡ false → HoldsNext c (Enumerated bit) → ⊥
other_base c nodes bit base is base_is differ holds =
    differ_by base bit differ (base_is ∙ bit_given c nodes bit nothing is holds)

not_same : (a : Bool) → a ≡ not a → ⊥
not_same true is = absurd cc
not_same false is = absurd cc

pub other_found : (c : Contents) (nodes : List Node) (bit : Bool) (number : ℕ) → IsNextCone c nodes
    → IsFoundOfAll nodes (Some number) → HoldsNext c (Enumerated bit) → ⊥
other_found c nodes bit number is found holds =
    not_same (root_bit nothing nodes)
    (bit_given c nodes bit nothing is holds ∙ sym (bit_given c nodes bit (number_bits number) is holds)
    ∙ found.found_is.other)
