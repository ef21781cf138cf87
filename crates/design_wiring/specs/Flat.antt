-- Wires in flat tables. No contract of a public call names them.
use Rattle.std.specs.Prelude.{◌≤◌, List, length, map}
use Rattle.std.specs.List.{AllByRecursion, between}
use Rattle.design_circuit.specs.declared.design.Pin.{Pin}
use Rattle.design_wiring.specs.declared.wiring.Head.{Head}
use Rattle.design_wiring.specs.Wired.{Wire}

-- A head tells its kind, and where its pins stand in the table of pins.
abbrev pub wire_in : List Pin → Head → Wire
wire_in pins head = record { kind = head.kind; pins = between head.start head.end pins }

abbrev pub wires_in : List Pin → List Head → List Wire
wires_in pins heads = map (wire_in pins) heads

-- Its pins are there.
pub record IsHeadWithin (pins : List Pin) (head : Head) : Type 0 where
  pub some : head.start ≤ head.end
  pub within : head.end ≤ length pins

abbrev pub AreHeadsWithin : List Pin → List Head → Type 0
AreHeadsWithin pins heads = AllByRecursion (IsHeadWithin pins) heads
