-- What is to blame for roots, and that a place follows its root.
use Rattle.std.specs.Prelude.{◌≡◌, ℕ, Bool, List}
use Rattle.std.specs.List.{AllByRecursion}
use Rattle.design_circuit.specs.declared.place.Place.{Place}
use Rattle.design_circuit.specs.Filling.{IsFilling, bit_of}
use Rattle.law_model.specs.Class.{flipped}
use Rattle.wave_proved.specs.Contents.{Contents, job}
use Rattle.decide_cone.specs.Cones.{AreRightOf}
use Rattle.report_blame.specs.ToBlame.{IsToBlame, bit_in}
use Rattle.report_blame.specs.declared.causes.Causes.{Causes as ACauses}
use Rattle.report_blame.specs.declared.halves.Cause.{Cause}

-- In the world of every filling a place has the bit of another, or its complement where the way to it inverts.
abbrev pub Follows : Contents → ℕ → ℕ → Bool → Type 0
Follows c number other inverted = (filling : List Place) → IsFilling (job c) filling
    → bit_in c (bit_of (job c) filling) number ≡ flipped inverted (bit_in c (bit_of (job c) filling) other)

-- What stands with the number of a place is to blame for it.
abbrev pub IsFoundCause : Contents → ℕ × Cause → Type 0
IsFoundCause c entry = IsToBlame c entry.0 entry.1.source entry.1.others

abbrev pub AreFound : Contents → List (ℕ × Cause) → Type 0
AreFound c entries = AllByRecursion (IsFoundCause c) entries

-- Each entry stands so, and what helps to find cones is right of the wave.
pub record AreCauses (c : Contents) (causes : ACauses) : Type 0 where
  pub found : AreFound c causes.found.entries
  pub right : AreRightOf c causes.cones
