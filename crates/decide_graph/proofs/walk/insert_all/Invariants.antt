-- The arguments so far have come in.
use Rattle.std.proofs.Common.{take}
use Rattle.decide_graph.specs.Reached.{AddsAll}
use Rattle.decide_graph.proofs.walk.insert_all.Given as goal

abbrev pub invariant-arguments : goal.invariant-arguments
invariant-arguments l = AddsAll l.initial.reached (take l.argument-index l.arguments) l.reached
