-- The lines are parted by the bounds, which come closer.
use Rattle.std.proofs.Common.{◌-◌}
use Rattle.design_circuit.specs.Circuit.{job_in}
use Rattle.wave_proved.specs.Pairs.{AreParted}
use Rattle.wave_proved.proofs.stated.lines_before.Given as goal

abbrev pub invariant-halves : goal.invariant-halves
invariant-halves l = AreParted (job_in l.circuit) l.lines l.number l.low l.high

abbrev pub decreases-halves : goal.decreases-halves
decreases-halves l = l.high - l.low
