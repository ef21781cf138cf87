-- What each printed condition says of its place.
use Rattle.std.specs.Prelude.{◌≡◌, ℕ, ◌<◌, Bool, List, map}
use Rattle.std.specs.List.{AllByRecursion}
use Rattle.design_cell.specs.Value.{bit_value}
use Rattle.cmd_phases.specs.OfCond.{IsCondition}
use Rattle.design_circuit.specs.Fits.{place_at}
use Rattle.design_circuit.specs.Job.{Job, places_of}
use Rattle.design_circuit.specs.Waveform.{certain}
use Rattle.design_circuit.specs.declared.waveform.Written.{Written}
use Rattle.cmd_program.specs.Conditions.{Condition}

-- A place of a waveform, certain with some bit, needs the places of a list: whatever bits the others of its cone's
-- boundary have, it has that bit.
pub record Needs (j : Job) (waveform : List Written) (condition : Condition) : Type 0 where
  pub number : ℕ
  pub within : number < places_of j
  pub place_is : condition.place ≡ place_at j number
  pub bit : Bool
  pub has : certain waveform number ≡ bit_value bit
  pub listed : List ℕ
  pub listed_is : condition.listed ≡ map (place_at j) listed
  pub is : IsCondition j (certain waveform) number bit listed

-- So it is with each of these.
abbrev pub EachNeeds : Job → List Written → List Condition → Type 0
EachNeeds j waveform conditions = AllByRecursion (Needs j waveform) conditions
