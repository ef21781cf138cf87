-- What a whole world shows: the bit of each written place of a wave.
use Rattle.std.specs.Prelude.{◌≡◌, ℕ, ◌+◌, ◌*◌, ◌<◌, Bool, List, length, map, slice_index}
use Rattle.std.specs.List.{range_with_len}
use Rattle.design_circuit.specs.declared.place.Place.{Place}
use Rattle.design_circuit.specs.Filling.{bit_of}
use Rattle.design_circuit.specs.Job.{number_of}
use Rattle.design_circuit.specs.Order.{position_of}
use Rattle.design_circuit.specs.Waveform.{certain}
use Rattle.design_circuit.specs.World.{bit_at, world, world_bit}
use Rattle.wave_proved.specs.Contents.{Contents, IsWritten, job}

-- The position of each net within a step, and the bits in place order.
pub record WorldView : Type 0 where
  pub positions : List ℕ
  pub bits : List Bool

-- The number of a place, and its bit.
abbrev pub number_in : WorldView → Place → ℕ
number_in w place = place.step * length w.positions + slice_index w.positions place.net

abbrev pub bit_in : WorldView → Place → Bool
bit_in w place = bit_at w.bits (number_in w place)

-- The place is one of those that have a bit.
pub record HasPlace (w : WorldView) (place : Place) : Type 0 where
  pub net : place.net < length w.positions
  pub written : number_in w place < length w.bits

-- The positions of all nets of an order.
abbrev pub positions_in : List ℕ → List ℕ
positions_in order = map (position_of order) (range_with_len 0 (length order))

-- The bits of the written places of a wave, in the world of a filling.
abbrev pub written_bits : Contents → List Place → List Bool
written_bits c filling = world (job c) (certain c.written) (bit_of (job c) filling) (length c.written)

-- That world over these places.
abbrev pub filled : Contents → List Place → WorldView
filled c filling = record {
  positions = positions_in c.order;
  bits = written_bits c filling;
}

-- A world has every written place.
abbrev pub HasWritten : Contents → WorldView → Type 0
HasWritten c w = (place : Place) → IsWritten c place → HasPlace w place

-- There it has the bit that the world of the filling has.
abbrev pub GivesBits : Contents → List Place → WorldView → Type 0
GivesBits c filling w =
    (place : Place) → IsWritten c place
    → bit_in w place ≡ world_bit (job c) (certain c.written) (bit_of (job c) filling) (number_of (job c) place)
