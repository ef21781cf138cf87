-- The readings of the positions so far.
use Rattle.std.proofs.Common.{◌≡◌}
use Rattle.design_circuit.specs.Circuit.{job_in}
use Rattle.design_circuit.specs.Order.{arguments_of_driver}
use Rattle.replay_fans.specs.Readings.{readings_to}
use Rattle.replay_fans.proofs.fans.cell_readers.Given as goal

abbrev pub invariant-positions : goal.invariant-positions
invariant-positions l = l.readings.items ≡ readings_to (job_in l.circuit) arguments_of_driver l.position
