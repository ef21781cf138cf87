-- What a driver goes through.
use Rattle.std.specs.Prelude.{◌≡◌, ℕ, Option, Some, None, slice_index_or}
use Rattle.design_circuit.specs.declared.design.Driver.{Driver}
use Rattle.elab_nets.specs.State.{State}

-- the driver of a net, where it has one
abbrev pub driver_at : State → ℕ → Option Driver
driver_at s net = slice_index_or s.drivers net None

-- Each net that has a driver has it still.
pub record DriversStay (old new : State) : Type 0 where
  pub stay : (net : ℕ) (d : Driver) → driver_at old net ≡ Some d → driver_at new net ≡ Some d
