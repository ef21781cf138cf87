-- What drives a net.
use Rattle.std.specs.Prelude.{ℕ, ◌+◌, List, [], ◌∷◌, Ok, Err}
use Rattle.design_circuit.specs.declared.design.Pin.{Pin}
use Rattle.design_circuit.specs.declared.design.Pin.TheVariants.{Net, Bit, Dead}
use Rattle.design_circuit.specs.declared.design.Driver.{Driver}
use Rattle.design_circuit.specs.declared.design.Driver.TheVariants.{Undriven, Constant, Copy}
use Rattle.elab_nets.specs.declared.fault.ElabErr.TheVariants.{BadName}
use Rattle.elab_nets.specs.Outcome.{Outcome, after}
use Rattle.elab_nets.specs.State.{State, driven, with_driver}
use Rattle.elab_bits.specs.declared.run.Lane.{Lane}

-- A net takes the value of another, z as z, or a constant bit. What has no value drives nothing.
abbrev pub driver_from : Pin → Driver
driver_from (Net net) = Copy net
driver_from (Bit bit) = Constant bit
driver_from Dead = Undriven

-- Only a net can be driven.
abbrev pub driven_pin : ℕ → Pin → Driver → State → Outcome State
driven_pin at (Net net) driver s = driven at net driver s
driven_pin at _ driver s = Err (BadName at)

abbrev pub driven_lane : Lane → Lane → State → Outcome State
driven_lane l r s = driven_pin l.at l.pin (driver_from r.pin) s

-- The bits on the left take those on the right, from left to right.
abbrev pub all_driven : List Lane → List Lane → State → Outcome State
all_driven [] rs s = Ok s
all_driven (l ∷ ls) [] s = Ok s
all_driven (l ∷ ls) (r ∷ rs) s = after (driven_lane l r s) (all_driven ls rs)

-- The nets from a number on take the bits, whatever they have.
abbrev pub fed : ℕ → List Lane → State → State
fed net [] s = s
fed net (l ∷ ls) s = fed (net + 1) ls (with_driver net (driver_from l.pin) s)
