-- The forces of small circuits, worked out by hand.
use Rattle.std.proofs.Common.{◌≡◌, ℕ, ◌/◌, ◌%◌, ◌==◌, true, Option, None, Some, List, [], ◌∷◌, refl, if◌then◌else◌}
use Rattle.std.specs.Prelude.{slice_index_or}
use Rattle.design_cell.specs.Table.{Table as Primitive, change}
use Rattle.design_cell.specs.Next.{next}
use Rattle.design_cell.specs.Symbol.{fits, is_edge}
use Rattle.design_cell.specs.declared.gate.Gate.TheVariants.{And, Or, Not, Xor}
use Rattle.design_cell.specs.declared.row.RawRow.{RawRow}
use Rattle.design_cell.specs.declared.symbol.Symbol.{Symbol}
use Rattle.design_cell.specs.declared.symbol.Symbol.TheVariants.{Single}
use Rattle.design_cell.specs.declared.value.Value.{Value}
use Rattle.design_cell.specs.declared.value.Value.TheVariants.{Zero, One, X}
use Rattle.design_circuit.specs.Job.{Job}
use Rattle.design_circuit.specs.declared.design.Driver.{Driver}
use Rattle.design_circuit.specs.declared.design.Driver.TheVariants.{Input, Cell, Register}
use Rattle.design_circuit.specs.declared.design.Pin.TheVariants.{Net}
use Rattle.design_circuit.specs.declared.design.Table.TheVariants.{Gate}
use Rattle.design_circuit.specs.declared.force.Event.{Event}
use Rattle.design_circuit.specs.declared.stim.Levels.TheVariants.{Change}
use Rattle.design_circuit.specs.declared.stim.StartRule.TheVariants.{Cold}
use Rattle.replay_forces.specs.Changes.{changes, changes_by}
use Rattle.replay_forces.specs.ForcesOf.{forces_of, forcing, given_of, showing}

abbrev event : ℕ → ℕ → Option Value → Event
event step net value = record { step = step; net = net; value = value }

at_or : {A : Type 0} → A → List A → ℕ → A
at_or d xs k = slice_index_or xs k d

-- A multiplexer whose data are both 1 and whose select is x: nets d0, d1, s, y, ns, a, b.
abbrev mux_drivers : List Driver
mux_drivers = Input ∷ Input ∷ Input ∷ Cell (Gate Or) (Net 5 ∷ Net 6 ∷ []) ∷ Cell (Gate Not) (Net 2 ∷ []) ∷ Cell (Gate And) (Net 1 ∷ Net 2 ∷ []) ∷ Cell (Gate And) (Net 0 ∷ Net 4 ∷ []) ∷ []

abbrev mux : Value → Job
mux d0 = record {
  width = 7;
  driver = λ net. slice_index_or mux_drivers net Input;
  udps = [];
  order = 0 ∷ 1 ∷ 2 ∷ 4 ∷ 5 ∷ 6 ∷ 3 ∷ [];
  rounds = 4;
  moments = 1;
  recorded = λ moment net. slice_index_or (d0 ∷ One ∷ X ∷ []) net X;
  start_rule = Cold;
  levels = Change;
  start = λ net. X;
}

-- by position in the order
abbrev by_row : ℕ → List Value → ℕ → Value
by_row width row place = slice_index_or row (place % width) X

mux_equal_data : forces_of (mux One) (by_row 7 (One ∷ One ∷ X ∷ X ∷ X ∷ X ∷ One ∷ [])) ≡ record { step = 0; net = 3; value = Some One } ∷ []
unfolding changes forcing given_of showing
mux_equal_data = refl

mux_different_data : forces_of (mux Zero) (by_row 7 (Zero ∷ One ∷ X ∷ X ∷ X ∷ Zero ∷ X ∷ [])) ≡ []
unfolding changes forcing given_of showing
mux_different_data = refl

-- Of two statements for one net in a step the last counts, and one that changes nothing is dropped.
last_statement_counts : changes_by (mux One) (event 0 3 (Some X) ∷ event 0 3 (Some One) ∷ event 1 3 (Some One) ∷ event 2 3 None ∷ []) ≡ event 0 3 (Some One) ∷ event 2 3 None ∷ []
unfolding changes
last_statement_counts = refl

-- A primitive of a register with pins d and ck that takes its data at a rising edge.
abbrev any : Symbol
any = Single 63

abbrev row : ℕ → ℕ → ℕ → RawRow
row d ck q = record { entries = Single d ∷ Single ck ∷ []; state = Some any; output = Single q }

abbrev dff : Value → Primitive
dff start = record { sequential = true; inputs = 2; rows = row 48 114 48 ∷ row 49 114 49 ∷ row 63 110 45 ∷ row 42 63 45 ∷ []; start = start }

abbrev register : ℕ → ℕ → Value → Driver
register d ck start = Register record { udp = 0; pins = Net d ∷ Net ck ∷ []; clocks = 2; start = start }

-- A register that holds 0 while its clock, the exclusive or of c with itself, stays 0: nets c, d, q, ck.
abbrev hold : Job
hold = record {
  width = 4;
  driver = λ net. slice_index_or (Input ∷ Input ∷ register 1 3 Zero ∷ Cell (Gate Xor) (Net 0 ∷ Net 0 ∷ []) ∷ []) net Input;
  udps = dff Zero ∷ [];
  order = 0 ∷ 1 ∷ 2 ∷ 3 ∷ [];
  rounds = 4;
  moments = 3;
  recorded = λ moment net. if net == 0 then slice_index_or (Zero ∷ X ∷ Zero ∷ []) moment X else One;
  start_rule = Cold;
  levels = Change;
  start = λ net. Zero;
}

-- c is x in the second moment, and all else is known throughout.
abbrev hold_values : ℕ → Value
hold_values place = if place % 4 == 0 then hold.recorded (place / 16) 0 else if place % 4 == 1 then One else Zero

clock_known_after_repair : forces_of hold hold_values ≡ record { step = 4; net = 3; value = Some Zero } ∷ record { step = 8; net = 3; value = None } ∷ []
unfolding changes forcing given_of showing next change is_edge fits
clock_known_after_repair = refl
