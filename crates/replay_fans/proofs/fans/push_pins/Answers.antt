-- One pin more.
use Rattle.std.proofs.Common.{◌++◌, ◌∙◌, [], ◌∷◌, List, append_assoc, ap, slice_index_or, sym, take}
use Rattle.design_circuit.specs.declared.design.Pin.TheVariants.{Net}
use Rattle.design_circuit.specs.Order.{net_pins}
use Rattle.replay_due.specs.declared.readings.Reading.{Reading}
use Rattle.replay_fans.specs.Readings.{readings_of}
use Rattle.replay_fans.proofs.ReadingLemmas.{pin_more}
use Rattle.replay_fans.proofs.fans.push_pins.Goals as goal

pub pins-preserved : goal.pins-preserved
pins-preserved c =
    c.in_ok-push_pin.ensures
    ∙ ap (λ (rs : List Reading). rs ++ readings_of c.args.position
    (net_pins (slice_index_or c.args.pins.now c.pins.pin-index (Net 0) ∷ []))) c.pins.invariant
    ∙ append_assoc c.args.readings.now.items
    (readings_of c.args.position (net_pins (take c.pins.pin-index c.args.pins.now)))
    (readings_of c.args.position (net_pins (slice_index_or c.args.pins.now c.pins.pin-index (Net 0) ∷ [])))
    ∙ ap (λ (rs : List Reading). c.args.readings.now.items ++ rs)
    (sym (pin_more c.args.position c.args.pins.now c.pins.pin-index (Net 0) c.pins-test.true))
