-- A pin more.
use Rattle.std.proofs.Common.{◌<◌, sym, length, subst}
use Rattle.design_order.specs.Readers.{AddsTo}
use Rattle.design_order.proofs.Chains.{adds_none, adds_then, adds_table, pins_more, pin_bound}
use Rattle.design_order.proofs.readers.Readers.add_pins.Goals as goal

pub loop-pin-init : goal.loop-pin-init
loop-pin-init c = adds_none _ _ c.args.net c.requires.table

pub add_pin-requires-clause-table : goal.add_pin-requires-clause-table
add_pin-requires-clause-table c = adds_table _ _ _ _ _ c.args.net c.loop-pin.invariant

pub add_pin-requires-clause-net : goal.add_pin-requires-clause-net
add_pin-requires-clause-net c = subst (λ w. c.args.net < w) (sym c.loop-pin.invariant.table.long) c.requires.net

pub add_pin-requires-clause-arguments : goal.add_pin-requires-clause-arguments
add_pin-requires-clause-arguments c = pin_bound (λ a. a < length c.loop-pin.self.heads.items) c.args.pins.now c.loop-pin.pin-index _ c.loop-pin-test.true (rw c.loop-pin.invariant.table.long c.requires.arguments)

pub loop-pin-preserved : goal.loop-pin-preserved
loop-pin-preserved c =
    subst (λ ns. AddsTo c.args.self.now c.add_pin.new.self ns c.args.net) (sym (pins_more c.args.pins.now c.loop-pin.pin-index _ c.loop-pin-test.true)) (adds_then _ _ _ _ _ _ _ _ c.args.net c.loop-pin.invariant c.in_ok-add_pin.ensures)
