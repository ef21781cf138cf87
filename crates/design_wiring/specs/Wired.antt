-- The wiring of a design in an order: what stands at each position, and the pins that it reads.
use Rattle.std.specs.Prelude.{ℕ, ◌<◌, ◌≤◌, List, [], ◌∷◌, length, map, slice_index_or}
use Rattle.std.specs.List.{AllByRecursion}
use Rattle.design_circuit.specs.declared.design.Design.{Design}
use Rattle.design_circuit.specs.declared.design.Driver.{Driver}
use Rattle.design_circuit.specs.declared.design.Driver.TheVariants.{Input, Undriven, Constant, Copy, Cell, Register}
use Rattle.design_circuit.specs.declared.design.Pin.{Pin}
use Rattle.design_circuit.specs.declared.design.Pin.TheVariants.{Net, Bit, Dead}
use Rattle.design_circuit.specs.declared.design.Table.{Table}
use Rattle.design_circuit.specs.declared.design.Table.TheVariants.{Gate, Udp}
use Rattle.design_circuit.specs.Job.{driver_in}
use Rattle.design_circuit.specs.Order.{net_pins, position_of}
use Rattle.design_wiring.specs.declared.wiring.Kind.{Kind}
use Rattle.design_wiring.specs.declared.wiring.Kind.TheVariants as kind

-- What a driver is, without its pins.
abbrev pub kind_of_table : Table → Kind
kind_of_table (Gate gate) = kind.Gate gate
kind_of_table (Udp number) = kind.Udp number

abbrev pub kind_of : Driver → Kind
kind_of Input = kind.Input
kind_of Undriven = kind.Undriven
kind_of (Constant bit) = kind.Constant bit
kind_of (Copy net) = kind.Copy
kind_of (Cell table pins) = kind_of_table table
kind_of (Register latching) = kind.Register

-- The pins that it reads: a copy has one.
abbrev pub pins_of : Driver → List Pin
pins_of Input = []
pins_of Undriven = []
pins_of (Constant bit) = []
pins_of (Copy net) = Net net ∷ []
pins_of (Cell table pins) = pins
pins_of (Register latching) = latching.pins

-- A pin whose net is named by its position in the order.
abbrev pub placed : List ℕ → Pin → Pin
placed order (Net net) = Net (position_of order net)
placed order (Bit bit) = Bit bit
placed order Dead = Dead

-- What stands at a position, and the pins that it reads.
pub record Wire : Type 0 where
  pub kind : Kind
  pub pins : List Pin

abbrev pub wire_of : List ℕ → Driver → Wire
wire_of order driver = record { kind = kind_of driver; pins = map (placed order) (pins_of driver) }

-- The wires of a design, in the order of its nets.
abbrev pub wired : Design → List ℕ → List Wire
wired design order = map (λ net. wire_of order (driver_in design net)) order

-- The wire at a position; behind the last one nothing drives and nothing is read.
abbrev pub no_wire : Wire
no_wire = record { kind = kind.Undriven; pins = [] }

abbrev pub wire_at : List Wire → ℕ → Wire
wire_at wires position = slice_index_or wires position no_wire

-- A net of a design that reads at most 10 pins, whose nets stand in the order.
pub record IsWirable (design : Design) (order : List ℕ) (net : ℕ) : Type 0 where
  pub within : net < length design.nets
  pub few : length (pins_of (driver_in design net)) ≤ 10
  pub nets : AllByRecursion (λ n. n < length order) (net_pins (pins_of (driver_in design net)))
