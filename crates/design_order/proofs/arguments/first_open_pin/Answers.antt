-- A pin more without an open net.
use Rattle.std.proofs.Common.{◌<◌, ◌∙◌, sym, ap, length, arith}
use Rattle.design_order.specs.Progress.{first_open}
use Rattle.design_order.proofs.Chains.{pin_bound, pins_end, open_found, open_passed}
use Rattle.design_order.proofs.arguments.first_open_pin.Goals as goal

pub open_net-requires : goal.open_net-requires
open_net-requires c = pin_bound (λ net. net < length c.args.flags.now) c.args.pins.now c.loop-pin.pin-index _ c.loop-pin-test.true c.requires

pub returns-in-Some : goal.returns-in-Some
returns-in-Some c = sym (open_found c.args.flags.now c.args.pins.now c.loop-pin.pin-index c.in-Some.net _ c.loop-pin-test.true c.loop-pin.invariant (sym c.open_net.ensures ∙ c.in-Some.is))

pub loop-pin-preserved : goal.loop-pin-preserved
loop-pin-preserved c = open_passed c.args.flags.now c.args.pins.now c.loop-pin.pin-index _ c.loop-pin-test.true c.loop-pin.invariant (sym c.open_net.ensures ∙ c.in_default.is)

pub returns : goal.returns
returns c = sym (c.loop-pin.invariant ∙ ap (first_open c.args.flags.now) (pins_end c.args.pins.now c.loop-pin.pin-index (omega arith)))
