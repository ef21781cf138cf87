-- The place is that of the number.
use Rattle.test_waves.proofs.WavePlaces.{spot_written}
use Rattle.test_waves.proofs.waves.place_of.Goals as goal

pub returns-clause-written : goal.returns-clause-written
returns-clause-written c =
    spot_written c.args.wave.now c.circuit.ensures.wave _ c.circuit.ensures.job c.args.number c.requires
    c.spot_of-spot.result c.spot_of-spot.ensures
