-- The wires of the positions so far are made.
use Rattle.std.proofs.Common.{◌≡◌, ◌*◌, ◌≤◌, length, map, take}
use Rattle.design_circuit.specs.Job.{driver_in}
use Rattle.design_wiring.specs.Flat.{AreHeadsWithin, wires_in}
use Rattle.design_wiring.specs.Wired.{wire_of}
use Rattle.design_wiring.proofs.wiring.Wiring.of.Given as goal

abbrev pub invariant-positions : goal.invariant-positions
invariant-positions l = record {
  wires : wires_in l.pins.items l.heads.items ≡ map (λ net. wire_of l.order (driver_in l.design net)) (take l.position l.order);
  inside : AreHeadsWithin l.pins.items l.heads.items;
  few : length l.pins.items ≤ 10 * l.position;
}
