-- The wave is the one that the walk began with.
use Rattle.decide_repair.proofs.Pieces.{walk_begins}
use Rattle.decide_repair.proofs.walk.Walk.new.Goals as goal

pub invariant_of-result : goal.invariant_of-result
invariant_of-result c =
    walk_begins c.in_ok-wave.wave _ _ _ _ _ c.in_ok-aids.aids c.in_ok-wave.ensures c.recall.ensures
    (c.in_ok-aids.ensures c.in_ok-wave.wave)
