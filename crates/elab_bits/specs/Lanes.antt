-- The bits of an expression, from left to right.
use Rattle.std.specs.Prelude.{ℕ, zero, suc, ◌+◌, ◌==◌, Option, Some, None, List, [], ◌∷◌}
use Rattle.std.specs.Int.{bit_at}
use Rattle.design_circuit.specs.declared.design.Pin.{Pin}
use Rattle.design_circuit.specs.declared.design.Pin.TheVariants.{Net, Bit, Dead}
use Rattle.elab_bits.specs.declared.run.Lane.{Lane}

-- a bit, and the byte of the part that it belongs to
abbrev pub lane : ℕ → Pin → Lane
lane at pin = record { at = at; pin = pin }

-- the nets first, first + 1 and so on, so many of them
abbrev pub lanes_in : ℕ → ℕ → ℕ → List Lane
lanes_in at first zero = []
lanes_in at first (suc n) = lane at (Net first) ∷ lanes_in at (first + 1) n

-- the lowest bits of a value, the highest of them first (IEEE 1364-2005, clause 3.5)
abbrev pub literal_lanes : ℕ → ℕ → ℕ → List Lane
literal_lanes at zero value = []
literal_lanes at (suc n) value = lane at (Bit (bit_at value n == 1)) ∷ literal_lanes at n value

-- so many dead pins
abbrev pub dead_lanes : ℕ → ℕ → List Lane
dead_lanes at zero = []
dead_lanes at (suc n) = lane at Dead ∷ dead_lanes at n

-- the one bit, where there is exactly one
abbrev pub single : List Lane → Option Lane
single (l ∷ []) = Some l
single _ = None
