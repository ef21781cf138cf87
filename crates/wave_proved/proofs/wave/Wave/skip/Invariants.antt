-- The wave goes on; where another run is looked for, there is a next place.
use Rattle.std.proofs.Common.{◌+◌, ◌-◌, length, if◌then◌else◌}
use Rattle.std.specs.Prelude.{IsTrue}
use Rattle.design_circuit.specs.Job.{places_of}
use Rattle.wave_proved.specs.Advance.{GoesOn}
use Rattle.wave_proved.specs.Contents.{job}
use Rattle.wave_proved.specs.Token.{HasNext}
use Rattle.wave_proved.proofs.wave.Wave.skip.Given as goal

abbrev pub invariant-runs : goal.invariant-runs
invariant-runs l = record {
  goes : GoesOn l.fn.self l.wave;
  next : IsTrue l.more → HasNext l.wave;
}

abbrev pub decreases-runs : goal.decreases-runs
decreases-runs l =
    (places_of (job l.wave) - length l.wave.written) + (places_of (job l.wave) - length l.wave.written)
    + (if l.more then 1 else 0)
