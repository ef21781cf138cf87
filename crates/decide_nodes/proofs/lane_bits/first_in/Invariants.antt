-- The parts so far are 0.
use Rattle.decide_nodes.proofs.EachLane.{NoneBefore}
use Rattle.decide_nodes.proofs.lane_bits.first_in.Given as goal

abbrev pub invariant-parts : goal.invariant-parts
invariant-parts l = NoneBefore l.parts l.part
