-- Assignments: bits for the argument places of a place. Places are their numbers in place order, here and in all that
-- follows, and `certain` gives each place its certain value: its value where it is certain, else x.
use Rattle.std.specs.Prelude.{ℕ, ◌==◌, Bool, true, false, List, [], ◌∷◌, ◌++◌, map, if◌then◌else◌}
use Rattle.std.specs.List.{list_all}
use Rattle.design_cell.specs.declared.value.Value.{Value}
use Rattle.design_circuit.specs.Job.{Job}
use Rattle.design_circuit.specs.Rule.{arguments}
use Rattle.design_circuit.specs.World.{decided}
use Rattle.law_model.specs.Places.{among, places_where}

-- The argument places of a place, in place order and without doubles: those before it whose bits its rule reads.
abbrev pub argument_places : Job → (ℕ → Value) → ℕ → List ℕ
argument_places j certain place = places_where (among (arguments j certain place)) place

-- One place gets a bit, the others stay.
abbrev pub with_bit : ℕ → Bool → (ℕ → Bool) → ℕ → Bool
with_bit first bit bits place = if place == first then bit else bits place

-- All choices of bits for some places; what isn't listed is 0.
abbrev pub choices : List ℕ → List (ℕ → Bool)
choices [] = (λ place. false) ∷ []
choices (first ∷ places) = map (with_bit first false) (choices places) ++ map (with_bit first true) (choices places)

-- A certain place has its value, any other the bit that is chosen.
abbrev pub assigned : (ℕ → Value) → (ℕ → Bool) → ℕ → Bool
assigned certain bits place = decided (certain place) (bits place)

-- A test passes for every assignment of a place: for every choice of bits for its argument places, those that are
-- certain having their value.
unfoldable pub for_every : Job → (ℕ → Value) → ℕ → ((ℕ → Bool) → Bool) → Bool
for_every j certain place test = list_all (λ bits. test (assigned certain bits)) (choices (arguments j certain place))
