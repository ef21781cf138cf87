-- The class of the next place, and the places that it names.
use Rattle.std.proofs.Common.{◌≡◌, ℕ, ◌<◌, ◌≤◌, Bool, true, false, Some, None, List, length, refl, arith, if◌then◌else◌}
use Rattle.std.specs.Prelude.{nat_lt}
use Rattle.std.specs.List.{AllByRecursion}
use Rattle.std.proofs.lemmas.Bool.{ltb-true}
use Rattle.design_cell.specs.declared.value.Value.{Value}
use Rattle.design_circuit.specs.declared.waveform.Written.{Written}
use Rattle.design_circuit.specs.Fits.{Fits}
use Rattle.design_circuit.specs.Job.{Job, places_of}
use Rattle.design_circuit.specs.Rule.{arguments}
use Rattle.design_circuit.specs.Waveform.{certain}
use Rattle.law_model.specs.Class.{class_of}
use Rattle.law_model.specs.declared.class.ClassByNumber.{ClassByNumber}
use Rattle.law_model.specs.declared.class.ClassByNumber.TheVariants.{Local, Free, Carried, Line}
use Rattle.law_model.specs.Assignment.{argument_places}
use Rattle.law_model.specs.Places.{among}
use Rattle.law_model.proofs.AssignmentNumbers.{along}
use Rattle.law_model.proofs.PlacesWhere.{picked_below}
use Rattle.law_model.proofs.Roots.{carried_below}
use Rattle.wave_proved.specs.Contents.{FromWithin}
use Rattle.wave_due.specs.OfWaveBytes.{next_class}

by_test : (b : Bool) (there class : ClassByNumber) → (if b then Some there else None) ≡ Some class
    → (b ≡ true) × (there ≡ class)
by_test true there class is = (refl, cc)
by_test false there class is = cc

-- Where there is one, there is a next place.
pub next_some : (j : Job) (written : List Written) (class : ClassByNumber) → next_class j written ≡ Some class
    → (length written < places_of j) × (class_of j (certain written) (length written) ≡ class)
next_some j written class is =
    let parts = by_test (nat_lt (length written) (places_of j)) (class_of j (certain written) (length written)) class
    is in
    (ltb-true (length written) (places_of j) parts.0, parts.1)

from_below : (j : Job) → Fits j → (c : ℕ → Value) (place : ℕ) → place < places_of j → (class : ClassByNumber)
    → class_of j c place ≡ class → FromWithin place class
from_below j fits c place within (Local bit) is = tt
from_below j fits c place within Free is = tt
from_below j fits c place within (Carried from inverted) is = carried_below j fits c place from inverted within is
from_below j fits c place within Line is = tt

pub next_from : (j : Job) → Fits j → (written : List Written) (class : ClassByNumber)
    → next_class j written ≡ Some class → FromWithin (length written) class
next_from j fits written class is =
    let parts = next_some j written class is in
    from_below j fits (certain written) (length written) parts.0 class parts.1

further : (m n : ℕ) → m ≤ n → (class : ClassByNumber) → FromWithin m class → FromWithin n class
further m n up (Local bit) within = tt
further m n up Free within = tt
further m n up (Carried from inverted) within = omega arith
further m n up Line within = tt

pub next_from_job : (j : Job) → Fits j → (written : List Written) (class : ClassByNumber)
    → next_class j written ≡ Some class → FromWithin (places_of j) class
next_from_job j fits written class is =
    let parts = next_some j written class is in
    let within = parts.0 in
    further (length written) (places_of j) (omega (arith, within)) class (next_from j fits written class is)

-- A carried place is carried from one of the job.
pub class_from_job : (j : Job) → Fits j → (c : ℕ → Value) (place : ℕ) → place < places_of j
    → FromWithin (places_of j) (class_of j c place)
class_from_job j fits c place within =
    further place (places_of j) (omega arith) (class_of j c place)
    (from_below j fits c place within (class_of j c place) refl)

-- The argument places of a place are places of the job.
pub arguments_within : (j : Job) (c : ℕ → Value) (place : ℕ) → place < places_of j
    → AllByRecursion (λ k. k < places_of j) (argument_places j c place)
arguments_within j c place within =
    along (λ k. k < place) (λ k. k < places_of j) (argument_places j c place) (λ k less. omega arith)
    (picked_below (among (arguments j c place)) place)
