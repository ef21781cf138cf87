-- Live pins and clock pins of an instance (profile).
use Rattle.std.specs.Prelude.{◌≡◌, ◌<◌, ℕ, zero, suc, ◌+◌, ◌^◌, ◌==◌, ◌&&◌, Bool, not, Some, List, length, count_by}
use Rattle.std.specs.Prelude.{if◌then◌else◌}
use Rattle.std.specs.Int.{bit_at}
use Rattle.std.specs.Map.{lookup}
use Rattle.design_cell.specs.Table.{Table}
use Rattle.design_cell.specs.Clock.{is_clock}
use Rattle.design_circuit.specs.declared.design.Pin.{Pin}
use Rattle.design_circuit.specs.Job.{primitive_of}
use Rattle.design_circuit.specs.Fits.{is_dead, dead_pins, is_clock_pin}

-- A pin is live where it isn't dead: a constant is live.
abbrev pub live_count : List Pin → ℕ
live_count pins = count_by (λ (p : Pin). not (is_dead p)) pins

-- the clock pins among the first, as a number: bit i stands for pin i
abbrev pub clock_bits : Table → ℕ → ℕ → ℕ
clock_bits table dead zero = 0
clock_bits table dead (suc n) = clock_bits table dead n + (if is_clock table dead n then 2 ^ n else 0)

-- the clock pins of an instance
abbrev pub clocks_of : Table → List Pin → ℕ
clocks_of table pins = clock_bits table (dead_pins pins) (length pins)

-- These are the clock pins, as a register's must be.
pub record AreClocks (table : Table) (pins : List Pin) (clocks : ℕ) : Type 0 where
  pub each : (pin : ℕ) → pin < 16 → (bit_at clocks pin == 1) ≡ is_clock_pin table pins pin

-- how keys are compared
abbrev pub same_key : ℕ × ℕ → ℕ × ℕ → Bool
same_key a b = (a.0 == b.0) && (a.1 == b.1)

-- the clock pins of a primitive, with these dead pins
abbrev pub mask_of : List Table → ℕ × ℕ → ℕ
mask_of udps key = clock_bits (primitive_of udps key.0) key.1 (primitive_of udps key.0).inputs

-- What is kept for a primitive and dead pins are its clock pins.
pub record AreMasks (udps : List Table) (masks : List ((ℕ × ℕ) × ℕ)) : Type 0 where
  pub each : (key : ℕ × ℕ) (mask : ℕ) → lookup (same_key key) masks ≡ Some mask → mask ≡ mask_of udps key
