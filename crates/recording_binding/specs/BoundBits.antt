-- The bits of bound variables, moment by moment, in the order of a report.
use Rattle.std.specs.Prelude.{ℕ, zero, suc, ◌+◌, ◌<◌, List, [], ◌∷◌, ◌++◌, drop, length}
use Rattle.std.specs.List.{flat_map}
use Rattle.design_circuit.specs.declared.design.Design.{Design}
use Rattle.recording_binding.specs.declared.binding.Bound.{Bound}
use Rattle.recording_binding.specs.declared.bound_bits.BoundBit.{BoundBit}
use Rattle.recording_binding.specs.declared.bound_bits.BoundBits.{BoundBits}

-- Bits of a variable from one on, by their nets.
abbrev pub bits_from : ℕ → ℕ → ℕ → List ℕ → List BoundBit
bits_from moment variable bit [] = []
bits_from moment variable bit (net ∷ nets) =
    record { moment = moment; variable = variable; bit = bit; net = net } ∷ bits_from moment variable (bit + 1) nets

abbrev pub variable_bits : ℕ → Bound → List BoundBit
variable_bits moment b = bits_from moment b.variable 0 b.bits

abbrev pub moment_bits : ℕ → List Bound → List BoundBit
moment_bits moment bound = flat_map (variable_bits moment) bound

-- Those of so many moments from one on.
abbrev pub moments_bits : List Bound → ℕ → ℕ → List BoundBit
moments_bits bound moment zero = []
moments_bits bound moment (suc more) = moment_bits moment bound ++ moments_bits bound (moment + 1) more

-- Those of so many moments.
abbrev pub bound_bits : ℕ → List Bound → List BoundBit
bound_bits moments bound = moments_bits bound 0 moments

-- A bit is of one of so many moments, and of a net of the design.
pub record IsBitOf (design : Design) (moments : ℕ) (bit : BoundBit) : Type 0 where
  pub moment : bit.moment < moments
  pub net : bit.net < length design.nets

-- What is left of a walk: of the variable in hand, of the moment, and of the moments after it.
abbrev pub left_of : BoundBits → List BoundBit
left_of walk =
    bits_from walk.moment walk.variable walk.bit walk.nets.now
    ++ (moment_bits walk.moment (drop walk.begun walk.bound.now)
    ++ moments_bits walk.bound.now (walk.moment + 1) walk.more)
