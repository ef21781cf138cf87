-- Worlds of a sound waveform.
use Rattle.std.proofs.Common.{◌≡◌, ℕ, ◌<◌, ◌≤◌, Bool, true, false, List, length, arith}
use Rattle.design_cell.specs.declared.value.Value.{Value}
use Rattle.design_cell.specs.declared.value.Value.TheVariants.{Zero, One, X, Z}
use Rattle.design_cell.specs.Value.{bit_value}
use Rattle.design_circuit.specs.declared.place.Place.{Place}
use Rattle.design_circuit.specs.declared.waveform.Written.{Written}
use Rattle.design_circuit.specs.declared.waveform.Mark.{Mark}
use Rattle.design_circuit.specs.declared.waveform.Mark.TheVariants.{Certain, Unknown, Undecided}
use Rattle.design_circuit.specs.Job.{Job, places_of}
use Rattle.design_circuit.specs.Fits.{Fits}
use Rattle.design_circuit.specs.Filling.{IsFilling, bit_of}
use Rattle.design_circuit.specs.Waveform.{written_at, certain, certain_by, Settles}
use Rattle.design_circuit.specs.World.{world_bit}
use Rattle.design_circuit.proofs.Worlds.{world_is}
use Rattle.law_model.specs.Sound.{SoundBy, Sound}
use Rattle.law_model.specs.declared.line.Line.{Line as ALine}
use Rattle.law_model.proofs.CarryLaw.{TrueWorld}
use Rattle.law_model.specs.declared.limits.Limits.{Limits}

settles_by : (j : Job) (limits : Limits) (waveform : List Written) (lines : List ALine) (place : ℕ) (mark : Mark)
    (value : Value) (bit : Bool) → SoundBy j limits waveform lines place mark value
    → certain_by mark value ≡ bit_value bit → Settles j waveform place bit
settles_by j limits waveform lines place Certain Zero false sound is = sound
settles_by j limits waveform lines place Certain Zero true sound is = cc
settles_by j limits waveform lines place Certain One false sound is = cc
settles_by j limits waveform lines place Certain One true sound is = sound
settles_by j limits waveform lines place Certain X bit sound is = absurd sound
settles_by j limits waveform lines place Certain Z bit sound is = absurd sound
settles_by j limits waveform lines place Unknown value false sound is = cc
settles_by j limits waveform lines place Unknown value true sound is = cc
settles_by j limits waveform lines place Undecided value false sound is = cc
settles_by j limits waveform lines place Undecided value true sound is = cc

-- A certain place of a sound waveform has its value in the world of every filling.
pub certain_settles : (j : Job) (limits : Limits) (shown : ℕ → Value) (waveform : List Written) (lines : List ALine)
    → Sound j limits shown waveform lines → (place : ℕ) (bit : Bool) → place < length waveform
    → certain waveform place ≡ bit_value bit → Settles j waveform place bit
unfolding certain
certain_settles j limits shown waveform lines sound place bit less is =
    settles_by j limits waveform lines place (written_at waveform place).mark (written_at waveform place).value bit
    (sound.exact place less) is

-- So the world of a filling is one in which the certain places have their values, up to each written place and the
-- next.
pub true_world : (j : Job) (limits : Limits) → Fits j → (shown : ℕ → Value) (waveform : List Written) (lines : List ALine)
    → Sound j limits shown waveform lines → (place : ℕ) → place ≤ length waveform → place < places_of j
    → (filling : List Place) → IsFilling j filling
    → TrueWorld j (certain waveform) (bit_of j filling) (world_bit j (certain waveform) (bit_of j filling)) place
true_world j limits fits shown waveform lines sound place up within filling is = record {
  within = within;
  world = λ k low. world_is j fits (certain waveform) (bit_of j filling) k (omega (arith, low, within));
  exact = λ k bit less known. certain_settles j limits shown waveform lines sound k bit (omega (arith, less, up)) known
      filling is;
}

pub next_world : (j : Job) (limits : Limits) → Fits j → (shown : ℕ → Value) (waveform : List Written) (lines : List ALine)
    → Sound j limits shown waveform lines → length waveform < places_of j → (filling : List Place) → IsFilling j filling
    → TrueWorld j (certain waveform) (bit_of j filling) (world_bit j (certain waveform) (bit_of j filling))
    (length waveform)
next_world j limits fits shown waveform lines sound within = true_world j limits fits shown waveform lines sound
    (length waveform) (omega arith) within
