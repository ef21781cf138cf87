-- The class of a place, from the classes before it.
use Rattle.std.proofs.Common.{◌≡◌, ℕ, ◌-◌, ◌%◌, ◌<◌, ◌==◌, not, List, [], ◌∷◌, refl, ◌∙◌, arith}
use Rattle.std.specs.Prelude.{nat_lt}
use Rattle.std.specs.List.{AllByRecursion, list_all}
use Rattle.std.proofs.lemmas.Bool.{ltb-true}
use Rattle.design_cell.specs.declared.value.Value.{Value}
use Rattle.design_circuit.specs.declared.design.Driver.{Driver}
use Rattle.design_circuit.specs.declared.design.Driver.TheVariants.{Input, Undriven, Constant, Copy, Cell, Register}
use Rattle.design_circuit.specs.Job.{Job, at, step_of, net_of, places_of}
use Rattle.design_circuit.specs.Order.{net_pins, position_of, arguments_of_driver}
use Rattle.design_circuit.specs.Fits.{Fits, FitsDriver, StandsBefore}
use Rattle.design_circuit.proofs.Rules.{AgreeBelow, spot, position_in, back_one}
use Rattle.law_model.specs.Class.{keeps, passes_on_of, class_by, class_in, classes, class_of}
use Rattle.law_model.specs.declared.class.ClassByNumber.{ClassByNumber}
use Rattle.law_model.proofs.CarryLaw.{behind_one, nets_along}
use Rattle.law_model.proofs.Classes.{class_rule, classes_prefix}
use Rattle.law_model.proofs.ClassesBefore.{guarded_same}

all_keep_earlier : (j : Job) (c : ℕ → Value) (e g : ℕ → ClassByNumber) (place step : ℕ) (nets : List ℕ)
    → AgreeBelow e g place → AllByRecursion (λ net. at j step net < place) nets
    → list_all (keeps j c e step) nets ≡ list_all (keeps j c g step) nets
all_keep_earlier j c e g place step [] agree less = refl
all_keep_earlier j c e g place step (net ∷ nets) agree less =
    rw (agree (at j step net) less.0, all_keep_earlier j c e g place step nets agree less.1) refl

passes_earlier : (j : Job) → Fits j → (c : ℕ → Value) (e g : ℕ → ClassByNumber) (place : ℕ) (driver : Driver)
    → place < places_of j → AgreeBelow e g place → FitsDriver j.udps j.width driver
    → AllByRecursion (StandsBefore j (place % j.width)) (arguments_of_driver driver)
    → passes_on_of j c e place (step_of j place) (net_of j place) driver ≡ passes_on_of j c g place (step_of j place)
    (net_of j place) driver
passes_earlier j fits c e g place Input within agree driver stands = refl
passes_earlier j fits c e g place Undriven within agree driver stands = refl
passes_earlier j fits c e g place (Constant bit) within agree driver stands = refl
passes_earlier j fits c e g place (Copy argument) within agree driver stands =
    let s = spot j fits place within in
    let whole = s.whole in
    let low = stands.0.before in
    rw (agree (at j (step_of j place) argument) (omega (arith, low, whole))) refl
passes_earlier j fits c e g place (Cell table pins) within agree driver stands =
    let s = spot j fits place within in
    let whole = s.whole in
    let step = step_of j place in
    let less : AllByRecursion (λ net. at j step net < place) (net_pins pins) = nets_along _ _ (net_pins pins)
    (λ k b. (let low = b.before in omega (arith, low, whole))) stands in
    guarded_same (not (step == 0)) _ _ _ _ (λ h. all_keep_earlier j c e g place step (net_pins pins) agree less)
    (λ h. refl)
passes_earlier j fits c e g place (Register latching) within agree driver stands =
    let s = spot j fits place within in
    let whole = s.whole in
    let step = step_of j place in
    let p = place % j.width in
    guarded_same (nat_lt 1 step) _ _ _ _ (λ h. refl) (λ h. (let behind = behind_one step (ltb-true 1 step h) in
    let less : AllByRecursion (λ net. at j (step - 1) net < place) (net_pins latching.pins) = nets_along _ _
    (net_pins latching.pins) (λ k low. (let back = back_one j.width step (position_of j.order k) p behind.0
    (position_in j fits k low) in omega (arith, back, whole))) driver.nets in
    all_keep_earlier j c e g place (step - 1) (net_pins latching.pins) agree less))

class_by_earlier : (j : Job) → Fits j → (c : ℕ → Value) (e g : ℕ → ClassByNumber) (place : ℕ) → place < places_of j
    → AgreeBelow e g place → class_by j c e place ≡ class_by j c g place
class_by_earlier j fits c e g place within agree =
    let s = spot j fits place within in
    rw (passes_earlier j fits c e g place (j.driver (net_of j place)) within agree s.driver s.before) refl

-- The class of a place is that which the classes of all places give.
pub class_is : (j : Job) → Fits j → (c : ℕ → Value) (place : ℕ) → place < places_of j
    → class_of j c place ≡ class_by j c (class_of j c) place
class_is j fits c place within =
    class_rule j c place ∙ class_by_earlier j fits c (class_in (classes j c place)) (class_of j c) place within
    (λ k less. classes_prefix j c place k less)
