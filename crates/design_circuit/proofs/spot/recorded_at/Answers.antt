-- A moment's row has a value for each net.
use Rattle.std.proofs.Common.{◌<◌, ◌/◌, length, arith}
use Rattle.std.proofs.lemmas.Grind.{common_steps}
use Rattle.design_circuit.proofs.spot.recorded_at.Goals as goal

pub value-requires-clause-net : goal.value-requires-clause-net
value-requires-clause-net c =
    let stim = c.args.circuit.now.fits.fits_stim in
    let moment = c.args.step / c.args.circuit.now.stim.now.rounds in
    let within : moment < length c.args.circuit.now.stim.now.inputs = grind (arith, common_steps) in
    rw (stim.values moment within) c.requires.net
