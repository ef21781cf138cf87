-- Fillings: which places get 1 where nothing else says what they are.
use Rattle.std.specs.Prelude.{ℕ, ◌<◌, ◌*◌, ◌==◌, Bool, List, map}
use Rattle.std.specs.List.{list_any, AllByRecursion}
use Rattle.std.specs.List.Sorted.{IsStrictlyIncreasing}
use Rattle.design_circuit.specs.Job.{Job, number_of}
use Rattle.design_circuit.specs.declared.place.Place.{Place}

-- A place of a job is one of its nets at one of its steps.
pub record IsPlace (j : Job) (place : Place) : Type 0 where
  pub step : place.step < j.moments * j.rounds
  pub net : place.net < j.width

-- A filling lists places without doubles, in place order.
pub record IsFilling (j : Job) (filling : List Place) : Type 0 where
  pub places : AllByRecursion (IsPlace j) filling
  pub ascending : IsStrictlyIncreasing (map (number_of j) filling)

-- Its bit at a place is 1 where the place is listed.
abbrev pub bit_of : Job → List Place → ℕ → Bool
bit_of j filling place = list_any (λ p. number_of j p == place) filling
