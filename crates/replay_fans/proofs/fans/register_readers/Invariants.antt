-- The readings of the positions so far.
use Rattle.std.proofs.Common.{◌≡◌}
use Rattle.design_circuit.specs.Circuit.{job_in}
use Rattle.replay_fans.specs.Nets.{looked_at}
use Rattle.replay_fans.specs.Readings.{readings_to}
use Rattle.replay_fans.proofs.fans.register_readers.Given as goal

abbrev pub invariant-positions : goal.invariant-positions
invariant-positions l = l.readings.items ≡ readings_to (job_in l.circuit) looked_at l.position
