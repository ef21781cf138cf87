-- Some net isn't listed.
use Rattle.std.proofs.Common.{arith}
use Rattle.design_order.proofs.Orders.{count_all}
use Rattle.design_order.proofs.walk.least_open.Goals as goal

pub unreachable-requires : goal.unreachable-requires
unreachable-requires c =
    let all = count_all c.args.flags.now (λ i lt. c.loop-net.invariant i (omega arith)) in
    omega (arith, all, c.requires.open_)
