-- How code finds whether a filling lists a place: by a set of steps and nets.
use Rattle.std.specs.Prelude.{ℕ, List, [], ◌∷◌, map, if◌then◌else◌}
use Rattle.std.specs.declared.cmp.Ordering.{Ordering}
use Rattle.std.specs.Ordering.{nat_cmp, ordering_then}
use Rattle.std.specs.BTreeSet as tree
use Rattle.std.specs.BTreeSet.{BTreeSet}
use Rattle.design_circuit.specs.declared.place.Place.{Place}
use Rattle.decide_nodes.specs.Nodes.{is_listed}

abbrev pub spot_of : Place → ℕ × ℕ
spot_of place = (place.step, place.net)

abbrev pub spot_cmp : ℕ × ℕ → ℕ × ℕ → Ordering
spot_cmp x y = ordering_then (nat_cmp x.0 y.0) (nat_cmp x.1 y.1)

-- A set has the spots of the places that a filling lists.
abbrev pub HasSpots : List Place → BTreeSet (ℕ × ℕ) → Type 0
HasSpots filling spots = tree.IsFromIterResult spot_cmp (map spot_of filling) spots

-- The lanes of a source that has its bit in a filling: in the first lane.
abbrev pub listed_lanes : List Place → Place → List ℕ
listed_lanes filling place = (if is_listed filling place then 1 else 0) ∷ 0 ∷ 0 ∷ 0 ∷ []
