-- Behind step 0 there is a step before.
use Rattle.std.proofs.Common.{◌<◌, arith}
use Rattle.std.proofs.lemmas.Grind.{common_steps}
use Rattle.design_circuit.specs.Circuit.{job_in}
use Rattle.design_circuit.proofs.Reaching.{reach_one}
use Rattle.design_circuit.proofs.rule.register_value.Goals as goal

pub net_value-kept-requires-clause-reach : goal.net_value-kept-requires-clause-reach
net_value-kept-requires-clause-reach g c =
    let later : 0 < c.args.spot.step = grind (arith, common_steps) in
    reach_one (job_in c.args.circuit.now) c.args.circuit.now.fits.fits_job (g.C.Source.has c.args.certain.now) c.args.place c.args.spot c.requires.spot c.requires.certain later

pub net_value-kept-requires-else-clock_is_uncertain-clause-reach : goal.net_value-kept-requires-else-clock_is_uncertain-clause-reach
net_value-kept-requires-else-clock_is_uncertain-clause-reach g c =
    let later : 0 < c.args.spot.step = grind (arith, common_steps) in
    reach_one (job_in c.args.circuit.now) c.args.circuit.now.fits.fits_job (g.B.BitSource.has c.args.bits.now) c.args.place c.args.spot c.requires.spot c.requires.bits later
