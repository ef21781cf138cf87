-- What stands at a position of the order, and what it looks back at.
use Rattle.std.specs.Prelude.{ℕ, List, [], slice_index}
use Rattle.design_circuit.specs.Job.{Job}
use Rattle.design_circuit.specs.Order.{net_pins}
use Rattle.design_circuit.specs.declared.design.Driver.{Driver}
use Rattle.design_circuit.specs.declared.design.Driver.TheVariants.{Input, Undriven, Constant, Copy, Cell, Register}

-- the net at a position of the order, and its driver
abbrev pub net_on : Job → ℕ → ℕ
net_on j position = slice_index j.order position

abbrev pub driver_on : Job → ℕ → Driver
driver_on j position = j.driver (net_on j position)

-- the nets that a register looks back at
abbrev pub looked_at : Driver → List ℕ
looked_at Input = []
looked_at Undriven = []
looked_at (Constant bit) = []
looked_at (Copy argument) = []
looked_at (Cell table pins) = []
looked_at (Register latching) = net_pins latching.pins
