-- What is left of a filling that is read in place order.
use Rattle.std.specs.Prelude.{◌≡◌, ℕ, ◌≤◌, List, map}
use Rattle.std.specs.List.{AllByRecursion}
use Rattle.std.specs.List.Sorted.{IsStrictlyIncreasing}
use Rattle.design_circuit.specs.declared.place.Place.{Place}
use Rattle.design_circuit.specs.Filling.{IsPlace, bit_of}
use Rattle.design_circuit.specs.Job.{Job, number_of}

-- Places of the job that ascend, none of them below a number.
pub record IsLeft (j : Job) (from : ℕ) (left : List Place) : Type 0 where
  pub places : AllByRecursion (IsPlace j) left
  pub ascending : IsStrictlyIncreasing (map (number_of j) left)
  pub low : AllByRecursion (λ p. from ≤ number_of j p) left

-- From the number on, what is left decides.
abbrev pub Decides : Job → ℕ → List Place → List Place → Type 0
Decides j from left filling = (place : ℕ) → from ≤ place → bit_of j left place ≡ bit_of j filling place
