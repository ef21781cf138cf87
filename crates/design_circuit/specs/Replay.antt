-- The replay: what a simulator of four values shows at each place.
use Rattle.std.specs.Prelude.{ℕ, zero, suc, ◌+◌, ◌-◌, ◌/◌, ◌==◌, Option, None, List, [], ◌∷◌, ◌++◌, slice_index_or}
use Rattle.std.specs.Prelude.{unwrap_or, if◌then◌else◌}
use Rattle.design_cell.specs.declared.value.Value.{Value}
use Rattle.design_cell.specs.declared.value.Value.TheVariants.{X, Z}
use Rattle.design_cell.specs.Value.{bit_value}
use Rattle.design_cell.specs.Gate.{gate_of}
use Rattle.design_cell.specs.Table.{Table as Primitive, look}
use Rattle.design_circuit.specs.Job.{Job, at, step_of, net_of, primitive_of}
use Rattle.design_circuit.specs.Register.{pins_at, updated}
use Rattle.design_circuit.specs.declared.design.Table.{Table}
use Rattle.design_circuit.specs.declared.design.Table.TheVariants.{Gate, Udp}
use Rattle.design_circuit.specs.declared.design.Driver.{Driver}
use Rattle.design_circuit.specs.declared.design.Driver.TheVariants.{Input, Undriven, Constant, Copy, Cell, Register}
use Rattle.design_circuit.specs.declared.design.Latching.{Latching}

-- What a place has in the replay: the value that it shows, and the one that its register keeps, x for any other driver.
pub record Held : Type 0 where
  pub shown : Value
  pub kept : Value

abbrev pub blank : Held
blank = record { shown = X; kept = X }

-- The value of a cell on the values of its pins.
abbrev pub table_of : List Primitive → Table → List Value → Value
table_of udps (Gate gate) pins = gate_of gate pins
table_of udps (Udp number) pins = look (primitive_of udps number) pins

-- What a register keeps at a step: its start at step 0, later what it makes of the values shown and of what it kept.
abbrev pub register_kept : Job → (ℕ → Held) → ℕ → ℕ → Latching → Value
register_kept j earlier step net latching =
    if step == 0 then j.start net else updated j (λ place. (earlier place).shown)
    (earlier (at j (step - 1) net)).kept step latching

-- What a driver gives at a step, from what earlier places have: an input its recorded value of the moment, no driver z,
-- a copy its argument's value, a cell its table's, a register what it keeps.
abbrev pub driven : Job → (ℕ → Held) → ℕ → ℕ → Driver → Value
driven j earlier step net Input = j.recorded (step / j.rounds) net
driven j earlier step net Undriven = Z
driven j earlier step net (Constant bit) = bit_value bit
driven j earlier step net (Copy argument) = (earlier (at j step argument)).shown
driven j earlier step net (Cell table pins) =
    table_of j.udps table (pins_at j (λ place. (earlier place).shown) step pins)
driven j earlier step net (Register latching) = register_kept j earlier step net latching

-- What a driver keeps at a step: no driver but a register keeps anything.
abbrev pub kept : Job → (ℕ → Held) → ℕ → ℕ → Driver → Value
kept j earlier step net Input = X
kept j earlier step net Undriven = X
kept j earlier step net (Constant bit) = X
kept j earlier step net (Copy argument) = X
kept j earlier step net (Cell table pins) = X
kept j earlier step net (Register latching) = register_kept j earlier step net latching

-- What it keeps by the value that it gives.
abbrev pub kept_by : Driver → Value → Value
kept_by Input given = X
kept_by Undriven given = X
kept_by (Constant bit) given = X
kept_by (Copy argument) given = X
kept_by (Cell table pins) given = X
kept_by (Register latching) given = given

-- Places that show these values, where the net in hand kept this one step before.
abbrev pub seen : (ℕ → Value) → Value → ℕ → Held
seen values was place = record { shown = values place; kept = was }

-- A forced place shows the forced value in place of its driver's.
unfoldable pub held_at : Job → (ℕ → Option Value) → (ℕ → Held) → ℕ → Held
held_at j forced earlier place = record {
  shown = unwrap_or (forced place) (driven j earlier (step_of j place) (net_of j place) (j.driver (net_of j place)));
  kept = kept j earlier (step_of j place) (net_of j place) (j.driver (net_of j place));
}

-- The replay under forces, up to the first n places: place by place, in place order.
unfoldable pub replay_under : Job → (ℕ → Option Value) → ℕ → List Held
replay_under j forced zero = []
replay_under j forced (suc n) =
    replay_under j forced n ++ held_at j forced (λ place. slice_index_or (replay_under j forced n) place blank) n ∷ []

-- The replay is the one without forces.
abbrev pub replay : Job → ℕ → List Held
replay j n = replay_under j (λ place. None) n

-- The value that the replay shows at a place, and the one that it keeps there, which depend on the places up to it
-- alone.
abbrev pub shown_at : Job → ℕ → Value
shown_at j place = (slice_index_or (replay j (place + 1)) place blank).shown

abbrev pub kept_at : Job → ℕ → Value
kept_at j place = (slice_index_or (replay j (place + 1)) place blank).kept
