-- The places are taken downwards from the root.
use Rattle.std.proofs.Common.{◌+◌, ◌-◌, length}
use Rattle.design_circuit.specs.Waveform.{certain}
use Rattle.wave_proved.specs.Contents.{job}
use Rattle.decide_cone.specs.Known.{IsRightOf}
use Rattle.decide_cone.proofs.TracedPlaces.{IsDescent}
use Rattle.decide_cone.proofs.descent.trace_places.Given as goal

abbrev pub invariant-places : goal.invariant-places
invariant-places l = record {
  descent : IsDescent (job l.wave) (certain l.wave.written) l.root l.traced.items l.reached;
  right : IsRightOf l.wave l.tracer;
}

abbrev pub decreases-places : goal.decreases-places
decreases-places l = l.root + 1 - length l.traced.items
