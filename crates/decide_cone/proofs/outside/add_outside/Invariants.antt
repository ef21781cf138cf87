-- Those of the places so far are in.
use Rattle.std.proofs.Common.{filter, take}
use Rattle.decide_graph.specs.Reached.{AddsAll}
use Rattle.decide_cone.specs.Boundary.{is_outside}
use Rattle.decide_cone.proofs.outside.add_outside.Given as goal

abbrev pub invariant-places : goal.invariant-places
invariant-places l = AddsAll l.initial.reached (filter (is_outside l.cone) (take l.place-index l.places)) l.reached
