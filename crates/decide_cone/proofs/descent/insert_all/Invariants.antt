-- The places so far have come in.
use Rattle.std.proofs.Common.{take}
use Rattle.decide_graph.specs.Reached.{AddsAll}
use Rattle.decide_cone.proofs.descent.insert_all.Given as goal

abbrev pub invariant-places : goal.invariant-places
invariant-places l = AddsAll l.initial.reached (take l.place-index l.places) l.reached
