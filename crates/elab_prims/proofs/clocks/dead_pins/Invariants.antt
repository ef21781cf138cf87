-- The dead pins so far.
use Rattle.std.proofs.Common.{◌≡◌, take}
use Rattle.design_circuit.specs.Fits.{dead_pins}
use Rattle.elab_prims.proofs.clocks.dead_pins.Given as goal

abbrev pub invariant-pins : goal.invariant-pins
invariant-pins l = l.dead ≡ dead_pins (take l.place l.pins)
