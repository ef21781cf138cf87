-- All lanes have the block's bit.
use Rattle.std.proofs.Common.{◌∙◌, sym}
use Rattle.std.proofs.lemmas.Bool.{ne_eqb}
use Rattle.std.proofs.lemmas.Nat.Bits.{shr_and_one}
use Rattle.decide_pair.proofs.BlockLanes.{high_none, high_ones}
use Rattle.decide_pair.proofs.blocks.high_lanes.Goals as goal

pub returns-then-block-bit-eq1 : goal.returns-then-block-bit-eq1
returns-then-block-bit-eq1 c =
    high_ones c.args.block c.args.bit c.ones.result (sym (shr_and_one c.args.block c.args.bit) ∙ c.if-block-bit-eq1.true)
    c.ones.ensures

pub returns-else-block-bit-eq1 : goal.returns-else-block-bit-eq1
returns-else-block-bit-eq1 c =
    high_none c.args.block c.args.bit c.zeros.result
    (ne_eqb _ 1 (λ one. c.if-block-bit-eq1.false (shr_and_one c.args.block c.args.bit ∙ one)))
    c.zeros.ensures
