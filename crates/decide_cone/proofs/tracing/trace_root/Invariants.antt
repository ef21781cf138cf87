-- The first places of the cone have their nodes.
use Rattle.std.proofs.Common.{vec_len}
use Rattle.design_circuit.specs.Waveform.{certain}
use Rattle.wave_proved.specs.Contents.{job}
use Rattle.decide_cone.specs.Known.{IsRightOf}
use Rattle.decide_cone.proofs.ConeNodes.{IsMade}
use Rattle.decide_cone.proofs.tracing.trace_root.Given as goal

abbrev pub invariant-rest : goal.invariant-rest
invariant-rest l = record {
  made : IsMade (job l.wave) (certain l.wave.written) l.root l.places.items l.rest.items l.nodes.items;
  right : IsRightOf l.wave l.tracer;
}

abbrev pub decreases-rest : goal.decreases-rest
decreases-rest l = vec_len l.rest
