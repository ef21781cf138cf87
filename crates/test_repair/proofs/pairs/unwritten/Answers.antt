-- The history is that of the wave.
use Rattle.test_repair.proofs.WavePlaces.{handed_again}
use Rattle.test_repair.proofs.pairs.unwritten.Goals as goal

pub new-requires-clause-handed : goal.new-requires-clause-handed
new-requires-clause-handed c =
    handed_again c.args.wave.now c.circuit.ensures.wave _ c.circuit.ensures.job _ c.replayed.ensures
