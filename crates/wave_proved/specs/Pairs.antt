-- The two fillings of an unknown place, and where the lines are found that state them.
use Rattle.std.specs.Prelude.{◌≡◌, ℕ, ◌<◌, ◌≤◌, Bool, List, length, map, slice_index}
use Rattle.std.specs.List.{AllByRecursion}
use Rattle.std.specs.List.Sorted.{IsStrictlyIncreasing}
use Rattle.design_circuit.specs.declared.place.Place.{Place}
use Rattle.design_circuit.specs.declared.waveform.Mark.TheVariants.{Unknown}
use Rattle.design_circuit.specs.Filling.{IsPlace}
use Rattle.design_circuit.specs.Job.{Job, number_of}
use Rattle.design_circuit.specs.Waveform.{certain}
use Rattle.law_model.specs.Line.{GivesBoth}
use Rattle.law_model.specs.Root.{Root, root_of}
use Rattle.law_model.specs.Stated.{Stated, body_at, pair_of, stated, stated_by}
use Rattle.law_model.specs.Yields.{places_of_lines}
use Rattle.law_model.specs.declared.line.Line.{Line as ALine}
use Rattle.wave_proved.specs.Contents.{Contents, IsWritten, class_in, job, written_of}

-- What stands at a place is unknown.
abbrev pub IsUnknown : Contents → Place → Type 0
IsUnknown c place = (written_of c place).mark ≡ Unknown

-- The fillings that the lines state for the place of a number.
abbrev pub stated_in : Contents → ℕ → Stated
stated_in c number = stated (job c) (certain c.written) c.lines number

-- Two fillings are those that are stated for a place.
abbrev pub AreStated : Contents → Place → List Place × List Place → Type 0
AreStated c place fillings = pair_of fillings.0 fillings.1 ≡ stated_in c (number_of (job c) place)

-- The world of the first gives 0 at the place, that of the second 1.
abbrev pub GiveBoth : Contents → Place → List Place × List Place → Type 0
GiveBoth c place fillings = GivesBoth (job c) c.written (number_of (job c) place) (pair_of fillings.0 fillings.1)

-- The root of the place of a number, and what is stated where a place is its own root.
abbrev pub root_in : Contents → ℕ → Root
root_in c number = root_of (job c) (certain c.written) number

abbrev pub stated_at_root : Contents → ℕ → Stated
stated_at_root c number = stated_by (job c) (class_in c number) (body_at (job c) c.lines number) number

-- A place and a bit are the root of a written place, and whether the way to it inverts.
pub record IsRootOf (c : Contents) (written_place : Place) (root : Place × Bool) : Type 0 where
  pub written : IsWritten c root.0
  pub place : number_of (job c) root.0 ≡ (root_in c (number_of (job c) written_place)).place
  pub inverted : root.1 ≡ (root_in c (number_of (job c) written_place)).inverted

-- The numbers of the places of lines.
abbrev pub numbers_of : Job → List ALine → List ℕ
numbers_of j lines = map (number_of j) (places_of_lines lines)

-- Lines of places of the job, in place order.
pub record AreInOrder (j : Job) (lines : List ALine) : Type 0 where
  pub places : AllByRecursion (IsPlace j) (places_of_lines lines)
  pub ascending : IsStrictlyIncreasing (numbers_of j lines)

-- Lines before the first bound stand before the place of a number, and from the second bound on none does.
pub record AreParted (j : Job) (lines : List ALine) (number low high : ℕ) : Type 0 where
  pub bounds : low ≤ high
  pub within : high ≤ length lines
  pub before : (k : ℕ) → k < low → slice_index (numbers_of j lines) k < number
  pub behind : (k : ℕ) → high ≤ k → k < length lines → number ≤ slice_index (numbers_of j lines) k
