-- At a later round there is a step before.
use Rattle.std.proofs.Common.{◌<◌, ◌∙◌, sym}
use Rattle.design_circuit.specs.Circuit.{job_in}
use Rattle.design_circuit.proofs.Reaching.{reach_one, later_in_moment}
use Rattle.design_circuit.proofs.rule.born_value.Goals as goal

pub net_value-requires-clause-reach : goal.net_value-requires-clause-reach
net_value-requires-clause-reach g c =
    let j = job_in c.args.circuit.now in
    let later : 0 < c.args.spot.step = later_in_moment c.args.spot.step c.args.circuit.now.stim.now.rounds (sym c.begins_moment.ensures ∙ c.if-begins_moment.false) in
    reach_one j c.args.circuit.now.fits.fits_job (g.B.BitSource.has c.args.bits.now) c.args.place c.args.spot c.requires.spot c.requires.bits later
