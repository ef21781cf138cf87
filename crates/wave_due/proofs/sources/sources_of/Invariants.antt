-- Those of the positions so far.
use Rattle.design_circuit.specs.Circuit.{job_in}
use Rattle.wave_due.specs.Sources.{AreSources}
use Rattle.wave_due.proofs.sources.sources_of.Given as goal

abbrev pub invariant-positions : goal.invariant-positions
invariant-positions l = AreSources (job_in l.circuit) l.position l.sources.items
