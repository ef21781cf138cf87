-- Runs of bits, and the bits that they stand for.
use Rattle.std.specs.Prelude.{ℕ, ◌+◌, ◌-◌, ◌^◌, ◌<◌, ◌≤◌, ◌==◌, List, [], ◌∷◌, ◌++◌}
use Rattle.std.specs.Int.{bit_at}
use Rattle.design_circuit.specs.declared.design.Pin.{Pin}
use Rattle.design_circuit.specs.declared.design.Pin.TheVariants as pin
use Rattle.elab_bits.specs.declared.run.Lane.{Lane}
use Rattle.elab_bits.specs.declared.run.Bits.{Bits}
use Rattle.elab_bits.specs.declared.run.Bits.TheVariants.{Nets, Literal, Dead}
use Rattle.elab_bits.specs.declared.run.Run.{Run}
use Rattle.elab_bits.specs.Lanes.{lanes_in, literal_lanes, dead_lanes}

abbrev pub run : ℕ → ℕ → Bits → Run
run at count bits = record { at = at; count = count; bits = bits }

-- so many bits of this kind
abbrev pub bits_lanes : ℕ → ℕ → Bits → List Lane
bits_lanes at count (Nets first) = lanes_in at first count
bits_lanes at count (Literal value) = literal_lanes at count value
bits_lanes at count Dead = dead_lanes at count

abbrev pub run_lanes : Run → List Lane
run_lanes r = bits_lanes r.at r.count r.bits

-- the bits of the runs, one behind the other
abbrev pub runs_lanes : List Run → List Lane
runs_lanes [] = []
runs_lanes (r ∷ rs) = run_lanes r ++ runs_lanes rs

-- The nets are below 2^20.
abbrev pub AreFew : ℕ → Bits → Type 0
AreFew count (Nets first) = first + count ≤ 2 ^ 20
AreFew count (Literal value) = Unit {0}
AreFew count Dead = Unit {0}

-- Each has a bit, and its nets are below 2^20.
abbrev pub AreRuns : List Run → Type 0
AreRuns [] = Unit {0}
AreRuns (r ∷ rs) = ((0 < r.count) × AreFew r.count r.bits) × AreRuns rs

-- the leftmost of so many bits
abbrev pub leftmost : ℕ → Bits → Pin
leftmost count (Nets first) = pin.Net first
leftmost count (Literal value) = pin.Bit (bit_at value (count - 1) == 1)
leftmost count Dead = pin.Dead

-- what stands behind the leftmost bit
abbrev pub behind : Bits → Bits
behind (Nets first) = Nets (first + 1)
behind (Literal value) = Literal value
behind Dead = Dead
