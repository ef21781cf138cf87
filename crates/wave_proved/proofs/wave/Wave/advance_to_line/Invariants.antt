-- The wave goes on.
use Rattle.std.proofs.Common.{◌-◌, length}
use Rattle.design_circuit.specs.Job.{places_of}
use Rattle.wave_proved.specs.Advance.{GoesOn}
use Rattle.wave_proved.specs.Contents.{job}
use Rattle.wave_proved.proofs.wave.Wave.advance_to_line.Given as goal

abbrev pub invariant-places : goal.invariant-places
invariant-places l = GoesOn l.fn.self l.wave

abbrev pub decreases-places : goal.decreases-places
decreases-places l = places_of (job l.wave) - length l.wave.written
