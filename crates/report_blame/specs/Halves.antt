-- The way between two fillings, halved.
use Rattle.std.specs.Prelude.{◌≡◌, ◌≢◌, ℕ, ◌+◌, ◌<◌, Bool, false, List, All, not}
use Rattle.std.specs.List.Sorted.{IsNonDecreasing}
use Rattle.design_circuit.specs.declared.place.Place.{Place}
use Rattle.design_circuit.specs.Filling.{IsFilling, bit_of}
use Rattle.design_circuit.specs.Job.{Job, places_of}
use Rattle.wave_proved.specs.Contents.{Contents, IsWave, job}
use Rattle.report_blame.specs.Joined.{joined_bit}
use Rattle.report_blame.specs.ToBlame.{bit_in}
use Rattle.report_blame.specs.declared.halves.Way.{Way}

-- The bit of the place of a number where one filling holds below a number and another from it on.
abbrev pub halfway : Contents → List Place → List Place → ℕ → ℕ → Bool
halfway c zero one number cut = bit_in c (joined_bit (job c) one cut zero cut) number

-- Two fillings give the place of a number two bits.
pub record LeadsAcross (c : Contents) (number : ℕ) (zero one : List Place) : Type 0 where
  pub wave : IsWave c
  pub within : number < places_of (job c)
  pub zero_filling : IsFilling (job c) zero
  pub one_filling : IsFilling (job c) one
  pub differ : bit_in c (bit_of (job c) zero) number ≢ bit_in c (bit_of (job c) one) number

-- At a cut the bit of the place of a number turns.
pub record IsTurn (c : Contents) (zero one : List Place) (number cut : ℕ) : Type 0 where
  pub within : cut < places_of (job c)
  pub turns : halfway c zero one number (cut + 1) ≡ not (halfway c zero one number cut)

-- Neither filling lists the place of a number.
pub record IsQuiet (j : Job) (zero one : List Place) (number : ℕ) : Type 0 where
  pub first : bit_of j zero number ≡ false
  pub second : bit_of j one number ≡ false

-- Numbers are those of the places that two fillings list, and ascend.
pub record AreListed (j : Job) (zero one : List Place) (numbers : List ℕ) : Type 0 where
  pub within : All (λ number. number < places_of j) numbers
  pub ascending : IsNonDecreasing numbers
  pub others : (k : ℕ) → All (λ number. number ≢ k) numbers → IsQuiet j zero one k

-- So does a way.
abbrev pub IsWay : Way → Type 0
IsWay way = LeadsAcross way.wave.now way.number way.zero.now way.one.now

-- At a cut the bit turns on a way.
abbrev pub TurnsAt : Way → ℕ → Type 0
TurnsAt way cut = IsTurn way.wave.now way.zero.now way.one.now way.number cut

-- Numbers are those of the places that its fillings list.
abbrev pub AreAlong : Way → List ℕ → Type 0
AreAlong way numbers = AreListed (job way.wave.now) way.zero.now way.one.now numbers
