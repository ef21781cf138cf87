-- The row of a primitive that gave the replay its value at a place.
use Rattle.std.specs.Prelude.{◌≡◌, ℕ, ◌-◌, ◌==◌, Bool, true, false, Option, None, List}
use Rattle.design_cell.specs.declared.value.Value.{Value}
use Rattle.design_cell.specs.Deciding.{IsLastRow, IsRowOf}
use Rattle.design_circuit.specs.declared.design.Driver.{Driver}
use Rattle.design_circuit.specs.declared.design.Driver.TheVariants.{Input, Undriven, Constant, Copy, Cell, Register}
use Rattle.design_circuit.specs.declared.design.Latching.{Latching}
use Rattle.design_circuit.specs.declared.design.Pin.{Pin}
use Rattle.design_circuit.specs.declared.design.Table.{Table}
use Rattle.design_circuit.specs.declared.design.Table.TheVariants.{Gate, Udp}
use Rattle.design_circuit.specs.declared.place.Place.{Place}
use Rattle.design_circuit.specs.Handed.{shown_of}
use Rattle.design_circuit.specs.History.{HistoryView, held_in}
use Rattle.design_circuit.specs.Job.{Job, primitive_of}
use Rattle.design_circuit.specs.Register.{new_pins, old_pins, pins_at}
use Rattle.report_audit.specs.Listed.{place_in}

-- Of a cell of a primitive, the row that matches the values shown at its pins; a gate has no rows.
abbrev pub IsCellRow : Job → HistoryView → ℕ → Table → List Pin → Option ℕ → Type 0
IsCellRow j replay step (Gate gate) pins row = row ≡ None
IsCellRow j replay step (Udp number) pins row =
    IsRowOf (primitive_of j.udps number) (pins_at j (shown_of j replay) step pins) row

-- What the register of a place keeps one step before.
abbrev pub kept_before : HistoryView → Place → Value
kept_before replay place = (held_in replay (place_in (place.step - 1) place.net)).kept

-- Of a register at a later step, the row that decides at the last change of the pins that it looks back at; at step 0
-- it has its start, and no row.
abbrev pub IsLaterRow : Job → HistoryView → Place → Latching → Option ℕ → Type 0
IsLaterRow j replay place latching row =
    IsLastRow (primitive_of j.udps latching.udp) latching.clocks
    (old_pins j (shown_of j replay) place.step latching.pins) (new_pins j (shown_of j replay) place.step latching.pins)
    (kept_before replay place) row

abbrev pub IsRegisterRow : Bool → Job → HistoryView → Place → Latching → Option ℕ → Type 0
IsRegisterRow true j replay place latching row = row ≡ None
IsRegisterRow false j replay place latching row = IsLaterRow j replay place latching row

abbrev pub IsRowBy : Job → HistoryView → Place → Driver → Option ℕ → Type 0
IsRowBy j replay place Input row = row ≡ None
IsRowBy j replay place Undriven row = row ≡ None
IsRowBy j replay place (Constant bit) row = row ≡ None
IsRowBy j replay place (Copy argument) row = row ≡ None
IsRowBy j replay place (Cell table pins) row = IsCellRow j replay place.step table pins row
IsRowBy j replay place (Register latching) row = IsRegisterRow (place.step == 0) j replay place latching row

abbrev pub IsRowAt : Job → HistoryView → Place → Option ℕ → Type 0
IsRowAt j replay place row = IsRowBy j replay place (j.driver place.net) row

-- The row that is told: that of an origin, and none at any other place.
abbrev pub IsRowTold : Bool → Job → HistoryView → Place → Option ℕ → Type 0
IsRowTold true j replay place row = IsRowAt j replay place row
IsRowTold false j replay place row = row ≡ None
