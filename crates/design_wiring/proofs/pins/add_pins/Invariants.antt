-- The pins so far are appended.
use Rattle.std.proofs.Common.{◌≡◌, ◌++◌, map, take}
use Rattle.design_wiring.specs.Wired.{placed}
use Rattle.design_wiring.proofs.pins.add_pins.Given as goal

abbrev pub invariant-own : goal.invariant-own
invariant-own l = l.pins.items ≡ l.initial.pins.items ++ map (placed l.order) (take l.pin-index l.own)
