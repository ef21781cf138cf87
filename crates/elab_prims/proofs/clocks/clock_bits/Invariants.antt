-- The clock pins so far.
use Rattle.std.proofs.Common.{◌≡◌}
use Rattle.elab_prims.specs.Pins.{clock_bits}
use Rattle.elab_prims.proofs.clocks.clock_bits.Given as goal

abbrev pub invariant-pins : goal.invariant-pins
invariant-pins l = l.clocks ≡ clock_bits l.udp l.dead l.pin
