-- The loop of `pin_values`.
use Rattle.std.proofs.Common.{◌≡◌, take, length}
use Rattle.design_cell.specs.Clock.{pins_of}
use Rattle.design_cell.proofs.udp.pin_values.Given as goal

abbrev pub invariant-loop-pin : goal.invariant-loop-pin
invariant-loop-pin l = record {
  long : length l.values ≡ 10;
  pins : take l.pin l.values ≡ pins_of l.pin l.dead l.choice;
}
