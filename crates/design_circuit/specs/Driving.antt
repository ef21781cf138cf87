-- What a driver makes of the values at its pins.
use Rattle.std.specs.Prelude.{ℕ, true, List}
use Rattle.design_cell.specs.declared.value.Value.{Value}
use Rattle.design_cell.specs.declared.value.Value.TheVariants.{X}
use Rattle.design_cell.specs.Table.{Table as Primitive}
use Rattle.design_cell.specs.Next.{next}
use Rattle.design_circuit.specs.Fits.{FitsTable, FitsPrimitive}
use Rattle.design_circuit.specs.Job.{primitive_of}
use Rattle.design_circuit.specs.Replay.{table_of}
use Rattle.design_circuit.specs.declared.design.Driver.{Driver}
use Rattle.design_circuit.specs.declared.design.Driver.TheVariants.{Input, Undriven, Constant, Copy, Cell, Register}

-- The driver is a cell whose table takes so many pins.
abbrev pub IsCell : List Primitive → ℕ → Driver → Type 0
IsCell udps pins Input = ⊥
IsCell udps pins Undriven = ⊥
IsCell udps pins (Constant bit) = ⊥
IsCell udps pins (Copy argument) = ⊥
IsCell udps pins (Cell table own) = FitsTable udps table pins
IsCell udps pins (Register latching) = ⊥

-- What a cell gives.
abbrev pub cell_of : List Primitive → List Value → Driver → Value
cell_of udps pins Input = X
cell_of udps pins Undriven = X
cell_of udps pins (Constant bit) = X
cell_of udps pins (Copy argument) = X
cell_of udps pins (Cell table own) = table_of udps table pins
cell_of udps pins (Register latching) = X

-- The driver is a register whose primitive takes so many pins.
abbrev pub IsRegister : List Primitive → ℕ → Driver → Type 0
IsRegister udps pins Input = ⊥
IsRegister udps pins Undriven = ⊥
IsRegister udps pins (Constant bit) = ⊥
IsRegister udps pins (Copy argument) = ⊥
IsRegister udps pins (Cell table own) = ⊥
IsRegister udps pins (Register latching) = FitsPrimitive udps true latching.udp pins

-- What a register keeps when its pins go from the old values to the new ones.
abbrev pub register_of : List Primitive → List Value → List Value → Value → Driver → Value
register_of udps old new kept Input = X
register_of udps old new kept Undriven = X
register_of udps old new kept (Constant bit) = X
register_of udps old new kept (Copy argument) = X
register_of udps old new kept (Cell table own) = X
register_of udps old new kept (Register latching) = next (primitive_of udps latching.udp) latching.clocks old new kept
