-- The places of bound bits.
use Rattle.std.specs.Prelude.{◌<◌, length}
use Rattle.design_circuit.specs.declared.place.Place.{Place}
use Rattle.design_circuit.specs.Settled.{last_step}
use Rattle.recording_binding.specs.declared.bound_bits.BoundBit.{BoundBit}
use Rattle.wave_proved.specs.Contents.{Contents, IsWritten, job}

-- The place of a bound bit at the last round of its moment.
abbrev pub bit_place : Contents → BoundBit → Place
bit_place c bit = record { step = last_step (job c) bit.moment; net = bit.net }

-- A bit is of one of the moments, and its place is written.
pub record HasBit (c : Contents) (bit : BoundBit) : Type 0 where
  pub moment : bit.moment < length c.stim.times
  pub written : IsWritten c (bit_place c bit)
