-- There are at most 256 blocks, which hold all numbers.
use Rattle.std.proofs.Common.{◌*◌, ap, arith, length}
use Rattle.decide_pair.proofs.decision.least_other.Goals as goal

pub number_blocks-block-end-requires : goal.number_blocks-block-end-requires
number_blocks-block-end-requires c =
    let few = c.requires in
    let own = ap length c.sources.ensures in
    omega (arith, own, few)

pub returns : goal.returns
returns c =
    let enough = rw c.sources.ensures at c.number_blocks-block-end.ensures.enough in
    let most = c.number_blocks-block-end.ensures.few in
    let past = c.tries-test.false in
    let end = c.tries.auto.block-end in
    record {
      end = 256 * c.tries.block;
      enough = omega (arith, enough, past);
      few = omega (arith, most, end);
      found_is = c.tries.invariant.1;
    }
