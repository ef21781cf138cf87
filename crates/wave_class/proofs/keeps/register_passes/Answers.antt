-- The nets of the pins stand before the place, one step before.
use Rattle.std.proofs.Common.{◌<◌, arith}
use Rattle.std.proofs.lemmas.Grind.{common_steps}
use Rattle.design_circuit.specs.Circuit.{job_in}
use Rattle.design_circuit.specs.Order.{net_pins}
use Rattle.wave_class.proofs.Reached.{nets_back}
use Rattle.wave_class.proofs.keeps.register_passes.Goals as goal

pub pins_keep-requires-clause-nets : goal.pins_keep-requires-clause-nets
pins_keep-requires-clause-nets g c =
    let asked = c.args.asked.now in
    let j = job_in asked.circuit.now in
    let fits = asked.circuit.now.fits.fits_job in
    let later : 0 < c.args.spot.step = grind (arith, common_steps) in
    rw c.as_slice.ensures (nets_back j fits asked.place c.args.spot
    (net_pins c.args.latching.now.pins) c.requires.spot later c.requires.register.nets)
