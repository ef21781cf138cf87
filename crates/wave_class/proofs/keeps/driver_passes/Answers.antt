-- A step has room for all nets.
use Rattle.design_circuit.specs.Circuit.{job_in}
use Rattle.design_circuit.proofs.Reaching.{step_room}
use Rattle.wave_class.proofs.keeps.driver_passes.Goals as goal

pub net_keeps-requires-clause-small : goal.net_keeps-requires-clause-small
net_keeps-requires-clause-small g c =
    let asked = c.args.uncertain.now.asked.now in
    let j = job_in asked.circuit.now in
    let fits = asked.circuit.now.fits.fits_job in
    step_room j fits asked.place
    c.args.spot c.requires.spot
