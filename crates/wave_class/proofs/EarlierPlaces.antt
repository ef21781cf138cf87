-- The argument places stand before the place.
use Rattle.std.proofs.Common.{◌≡◌, ℕ, ◌<◌, ◌^◌, List, arith, filter}
use Rattle.std.specs.List.{AllByRecursion}
use Rattle.design_cell.specs.declared.value.Value.{Value}
use Rattle.design_cell.specs.Value.{is_unknown}
use Rattle.design_circuit.specs.Fits.{Fits}
use Rattle.design_circuit.specs.Job.{Job, places_of}
use Rattle.design_circuit.specs.Rule.{arguments}
use Rattle.design_circuit.proofs.Rules.{arguments_below}
use Rattle.law_model.specs.Places.{among, places_where}
use Rattle.law_model.proofs.AssignmentNumbers.{along}
use Rattle.law_model.proofs.PlacesWhere.{picked_same}
use Rattle.wave_class.specs.Arguments.{is_uncertain, uncertain_places}
use Rattle.wave_class.proofs.RisingPlaces.{all_below, all_filter, among_filter}

-- So what holds of all places before it holds of them, and they are few.
pub arguments_have : (j : Job) → Fits j → (c : ℕ → Value) (place : ℕ) (P : ℕ → Type 0) → place < places_of j
    → ((k : ℕ) → k < place → P k) → AllByRecursion P (arguments j c place)
arguments_have j fits c place P within each =
    along (λ k. k < place) P (arguments j c place) each (arguments_below j fits c place within)

pub arguments_small : (j : Job) → Fits j → (c : ℕ → Value) (place : ℕ) → place < places_of j
    → AllByRecursion (λ k. k < 2 ^ 40) (arguments j c place)
arguments_small j fits c place within =
    let few = fits.few_places in
    all_below (arguments j c place) place (2 ^ 40) (omega (arith, few)) (arguments_below j fits c place within)

abbrev pub unknowns : Job → (ℕ → Value) → ℕ → List ℕ
unknowns j c place = filter (λ k. is_unknown (c k)) (arguments j c place)

-- Those that aren't certain are as many places, before the place, and the definition's.
pub unknowns_below : (j : Job) → Fits j → (c : ℕ → Value) (place : ℕ) → place < places_of j
    → AllByRecursion (λ k. k < place) (unknowns j c place)
unknowns_below j fits c place within =
    all_filter (λ k. k < place) (λ k. is_unknown (c k)) (arguments j c place) (arguments_below j fits c place within)

pub unknowns_small : (j : Job) → Fits j → (c : ℕ → Value) (place : ℕ) → place < places_of j
    → AllByRecursion (λ k. k < 2 ^ 40) (unknowns j c place)
unknowns_small j fits c place within =
    all_filter (λ k. k < 2 ^ 40) (λ k. is_unknown (c k)) (arguments j c place) (arguments_small j fits c place within)

pub unknowns_are : (j : Job) (c : ℕ → Value) (place : ℕ)
    → places_where (among (unknowns j c place)) place ≡ uncertain_places j c place
unknowns_are j c place = picked_same (among (unknowns j c place)) (is_uncertain j c place) place
    (λ k less. among_filter (λ k. is_unknown (c k)) (arguments j c place) k)
