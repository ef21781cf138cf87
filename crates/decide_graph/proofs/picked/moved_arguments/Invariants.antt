-- The positions of the arguments so far.
use Rattle.std.proofs.Common.{◌≡◌, map, slice_index, take}
use Rattle.decide_graph.proofs.picked.moved_arguments.Given as goal

abbrev pub invariant-arguments : goal.invariant-arguments
invariant-arguments l = l.moved ≡ map (slice_index l.positions) (take l.argument-index l.arguments)
