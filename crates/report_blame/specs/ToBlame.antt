-- When a source is to blame for a place.
use Rattle.std.specs.Prelude.{◌≡◌, ◌≢◌, ℕ, Bool, false, List, ◌∷◌}
use Rattle.design_circuit.specs.declared.place.Place.{Place}
use Rattle.design_circuit.specs.Filling.{IsFilling, IsPlace, bit_of}
use Rattle.design_circuit.specs.Job.{number_of}
use Rattle.design_circuit.specs.Waveform.{certain}
use Rattle.design_circuit.specs.World.{world_bit}
use Rattle.wave_proved.specs.Contents.{Contents, job}

-- The bit of the place of a number in the world of a filling over a wave, the filling's bits being given.
abbrev pub bit_in : Contents → (ℕ → Bool) → ℕ → Bool
bit_in c bits number = world_bit (job c) (certain c.written) bits number

-- A place with a filling is to blame for the place of a number, as its source, where the filling doesn't list it, and
-- the worlds of the filling and of the filling with the source added differ there.
pub record IsToBlame (c : Contents) (number : ℕ) (source : Place) (others : List Place) : Type 0 where
  pub within : IsPlace (job c) source
  pub filling : IsFilling (job c) others
  pub apart : bit_of (job c) others (number_of (job c) source) ≡ false
  pub differs : bit_in c (bit_of (job c) others) number ≢ bit_in c (bit_of (job c) (source ∷ others)) number
