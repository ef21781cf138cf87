-- Those of the positions so far.
use Rattle.design_circuit.specs.Circuit.{job_in}
use Rattle.wave_bytes.specs.Roots.{AreRootsTo}
use Rattle.wave_bytes.proofs.roots.roots_of.Given as goal

abbrev pub invariant-positions : goal.invariant-positions
invariant-positions l = AreRootsTo (job_in l.circuit) l.position l.roots.items
