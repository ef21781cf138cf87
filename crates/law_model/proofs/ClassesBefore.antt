-- What depends on the places before a place alone.
use Rattle.std.proofs.Common.{◌≡◌, ℕ, zero, suc, ◌+◌, ◌-◌, ◌*◌, ◌%◌, ◌<◌, ◌≤◌, ◌==◌, ◌&&◌, not, Bool, true, false, List, [], ◌∷◌, refl, sym, ap, ◌∙◌, arith, subst}
use Rattle.std.specs.Prelude.{nat_lt}
use Rattle.std.specs.List.{AllByRecursion, list_all}
use Rattle.std.proofs.lemmas.Bool.{ltb-true}
use Rattle.design_cell.specs.declared.value.Value.{Value}
use Rattle.design_cell.specs.Value.{is_unknown}
use Rattle.design_circuit.specs.declared.design.Driver.{Driver}
use Rattle.design_circuit.specs.declared.design.Driver.TheVariants.{Input, Undriven, Constant, Copy, Cell, Register}
use Rattle.design_circuit.specs.Job.{Job, at, step_of, net_of, places_of}
use Rattle.design_circuit.specs.Order.{net_pins, position_of, arguments_of_driver}
use Rattle.design_circuit.specs.Fits.{Fits, FitsDriver, StandsBefore}
use Rattle.design_circuit.specs.Register.{had_uncertain_clock}
use Rattle.design_circuit.specs.Rule.{rule, arguments}
use Rattle.design_circuit.specs.World.{decided}
use Rattle.design_circuit.proofs.LevelRule.{had_same}
use Rattle.design_circuit.proofs.Rules.{AgreeBelow, rule_local, arguments_below, arguments_certain, spot, position_in, back_one}
use Rattle.law_model.specs.Assignment.{assigned, for_every}
use Rattle.law_model.specs.Class.{is_bit, flipped, is_local, is_free, is_never_unknown, is_carrier, keeps, passes_on_of, carried_or_line, class_by, class_in, classes, class_of}
use Rattle.law_model.specs.declared.class.ClassByNumber.{ClassByNumber}
use Rattle.law_model.proofs.Assignments.{every_same}
use Rattle.law_model.proofs.CarryLaw.{behind_one, nets_along}

-- The rule on an assignment.
rule_assigned : (j : Job) → Fits j → (c d : ℕ → Value) (bits : ℕ → Bool) (place : ℕ) → place < places_of j
    → AgreeBelow c d place → rule j c (assigned c bits) place ≡ rule j d (assigned d bits) place
rule_assigned j fits c d bits place within agree = rule_local j fits c d (assigned c bits) (assigned d bits) place
    within agree (λ k less. ap (λ v. decided v (bits k)) (agree k less))

local_same : (j : Job) → Fits j → (c d : ℕ → Value) (place : ℕ) (bit : Bool) → place < places_of j
    → AgreeBelow c d place → is_local j c place bit ≡ is_local j d place bit
local_same j fits c d place bit within agree =
    every_same j c d place (λ bits. is_bit (rule j c bits place) bit) (λ bits. is_bit (rule j d bits place) bit)
    (arguments_certain j fits c d place within agree)
    (λ bits. ap (λ v. is_bit v bit) (rule_assigned j fits c d bits place within agree))

free_same : (j : Job) → Fits j → (c d : ℕ → Value) (place : ℕ) → place < places_of j → AgreeBelow c d place
    → is_free j c place ≡ is_free j d place
free_same j fits c d place within agree =
    every_same j c d place (λ bits. is_unknown (rule j c bits place)) (λ bits. is_unknown (rule j d bits place))
    (arguments_certain j fits c d place within agree)
    (λ bits. ap is_unknown (rule_assigned j fits c d bits place within agree))

pub never_unknown_same : (j : Job) → Fits j → (c d : ℕ → Value) (place : ℕ) → place < places_of j → AgreeBelow c d place
    → is_never_unknown j c place ≡ is_never_unknown j d place
never_unknown_same j fits c d place within agree =
    every_same j c d place (λ bits. not (is_unknown (rule j c bits place)))
    (λ bits. not (is_unknown (rule j d bits place))) (arguments_certain j fits c d place within agree)
    (λ bits. ap (λ v. not (is_unknown v)) (rule_assigned j fits c d bits place within agree))

carried_same : (j : Job) → Fits j → (c d : ℕ → Value) (place from : ℕ) (inverted : Bool) → place < places_of j
    → AgreeBelow c d place → from < place → is_carrier j c place from inverted ≡ is_carrier j d place from
    inverted
carried_same j fits c d place from inverted within agree less =
    let every : for_every j c place (λ bits. is_bit (rule j c bits place) (flipped inverted (bits from))) ≡ for_every j
    d place (λ bits. is_bit (rule j d bits place) (flipped inverted (bits from))) =
    every_same j c d place (λ bits. is_bit (rule j c bits place) (flipped inverted (bits from)))
    (λ bits. is_bit (rule j d bits place) (flipped inverted (bits from)))
    (arguments_certain j fits c d place within agree) (λ bits. both bits) in
    rw (every, agree from less) refl
  where
    both : (bits : ℕ → Bool) → is_bit (rule j c (assigned c bits) place)
        (flipped inverted (assigned c bits from)) ≡ is_bit (rule j d (assigned d bits) place)
        (flipped inverted (assigned d bits from))
    both bits = ap (λ v. is_bit v (flipped inverted (assigned c bits from)))
        (rule_assigned j fits c d bits place within agree)
        ∙ ap (λ v. is_bit (rule j d (assigned d bits) place) (flipped inverted (decided v (bits from))))
        (agree from less)

back_le : (w step position : ℕ) → (step - 1) * w + position ≤ step * w + position
back_le w zero position = omega arith
back_le w (suc t) position = let e : suc t - 1 ≡ t = omega arith in rw e (omega arith)

keeps_same : (j : Job) (c d : ℕ → Value) (class : ℕ → ClassByNumber) (place step net : ℕ) → AgreeBelow c d place
    → at j step net < place → keeps j c class step net ≡ keeps j d class step net
keeps_same j c d class place step net agree less =
    let back = back_le j.width step (position_of j.order net) in
    rw (agree (at j step net) less, agree (at j (step - 1) net) (omega (arith, back, less))) refl

all_keep_same : (j : Job) (c d : ℕ → Value) (class : ℕ → ClassByNumber) (place step : ℕ) (nets : List ℕ)
    → AgreeBelow c d place → AllByRecursion (λ net. at j step net < place) nets
    → list_all (keeps j c class step) nets ≡ list_all (keeps j d class step) nets
all_keep_same j c d class place step [] agree less = refl
all_keep_same j c d class place step (net ∷ nets) agree less =
    rw (keeps_same j c d class place step net agree less.0, all_keep_same j c d class place step nets agree less.1) refl

and_same : (a x y : Bool) → (a ≡ true → x ≡ y) → a && x ≡ a && y
and_same true x y same = rw (same refl) refl
and_same false x y same = refl

pub guarded_same : (a x y p q : Bool) → (a ≡ true → x ≡ y) → (a ≡ true → p ≡ q) → a && x && p ≡ a && y && q
guarded_same true x y p q first second = rw (first refl, second refl) refl
guarded_same false x y p q first second = refl

passes_same : (j : Job) → Fits j → (c d : ℕ → Value) (class : ℕ → ClassByNumber) (place : ℕ) (driver : Driver)
    → place < places_of j → AgreeBelow c d place → FitsDriver j.udps j.width driver
    → AllByRecursion (StandsBefore j (place % j.width)) (arguments_of_driver driver)
    → passes_on_of j c class place (step_of j place) (net_of j place) driver ≡ passes_on_of j d class place
    (step_of j place) (net_of j place) driver
passes_same j fits c d class place Input within agree driver stands = refl
passes_same j fits c d class place Undriven within agree driver stands = refl
passes_same j fits c d class place (Constant bit) within agree driver stands = refl
passes_same j fits c d class place (Copy argument) within agree driver stands =
    let s = spot j fits place within in
    let whole = s.whole in
    let low = stands.0.before in
    keeps_same j c d class place (step_of j place) argument agree (omega (arith, low, whole))
passes_same j fits c d class place (Cell table pins) within agree driver stands =
    let s = spot j fits place within in
    let whole = s.whole in
    let step = step_of j place in
    let less : AllByRecursion (λ net. at j step net < place) (net_pins pins) = nets_along _ _ (net_pins pins)
    (λ k b. (let low = b.before in omega (arith, low, whole))) stands in
    guarded_same (not (step == 0)) _ _ _ _ (λ h. all_keep_same j c d class place step (net_pins pins) agree less)
    (λ h. never_unknown_same j fits c d place within agree)
passes_same j fits c d class place (Register latching) within agree driver stands =
    let s = spot j fits place within in
    let whole = s.whole in
    let step = step_of j place in
    let p = place % j.width in
    let pins = latching.pins in
    let here : AgreeBelow c d (step * j.width + p) = subst (AgreeBelow c d) (sym whole) agree in
    let clock : nat_lt 1 step ≡ true → not (had_uncertain_clock j c step latching) ≡ not
    (had_uncertain_clock j d step latching) =
    λ h. (ap not (had_same j fits c d step p latching driver (ltb-true 1 step h) here)) in
    let keep : nat_lt 1 step ≡ true → list_all (keeps j c class (step - 1)) (net_pins pins) ≡ list_all
    (keeps j d class (step - 1)) (net_pins pins) =
    λ h. (let behind = behind_one step (ltb-true 1 step h) in
    let less : AllByRecursion (λ net. at j (step - 1) net < place) (net_pins pins) = nets_along _ _ (net_pins pins)
    (λ k low. (let back = back_one j.width step (position_of j.order k) p behind.0
    (position_in j fits k low) in omega (arith, back, whole))) driver.nets in
    all_keep_same j c d class place (step - 1) (net_pins pins) agree less) in
    guarded_same (nat_lt 1 step) _ _ _ _ clock keep

carried_or_line_same : (j : Job) → Fits j → (c d : ℕ → Value) (place : ℕ) (places : List ℕ) → place < places_of j
    → AgreeBelow c d place → AllByRecursion (λ k. k < place) places
    → carried_or_line j c place places ≡ carried_or_line j d place places
carried_or_line_same j fits c d place [] within agree less = refl
carried_or_line_same j fits c d place (from ∷ others) within agree less =
    rw (
      carried_same j fits c d place from false within agree less.0,
      carried_same j fits c d place from true within
          agree less.0,
      carried_or_line_same j fits c d place others within agree less.1,
    ) refl

class_by_same : (j : Job) → Fits j → (c d : ℕ → Value) (class : ℕ → ClassByNumber) (place : ℕ) → place < places_of j
    → AgreeBelow c d place → class_by j c class place ≡ class_by j d class place
class_by_same j fits c d class place within agree =
    let s = spot j fits place within in
    let rest : carried_or_line j c place (arguments j c place) ≡ carried_or_line j d place (arguments j d place) =
    carried_or_line_same j fits c d place (arguments j c place) within agree (arguments_below j fits c place within)
    ∙ ap (carried_or_line j d place) (arguments_certain j fits c d place within agree) in
    rw (
      local_same j fits c d place false within agree,
      local_same j fits c d place true within agree,
      free_same j fits
          c d place within agree,
      passes_same j fits c d class place (j.driver (net_of j place)) within agree s.driver
          s.before,
      rest,
    ) refl

classes_local : (j : Job) → Fits j → (c d : ℕ → Value) (n : ℕ) → n ≤ places_of j → ((k : ℕ) → suc k < n → c k ≡ d k)
    → classes j c n ≡ classes j d n
unfolding classes
classes_local j fits c d zero within agree = refl
classes_local j fits c d (suc n) within agree =
    let ih = classes_local j fits c d n (omega arith) (λ k less. agree k (omega arith)) in
    let same = class_by_same j fits c d (class_in (classes j d n)) n (omega arith) (λ k less. agree k (omega arith)) in
    rw (ih, same) refl

-- The class of a place depends on the certain values before it alone.
pub class_local : (j : Job) → Fits j → (c d : ℕ → Value) (place : ℕ) → place < places_of j → AgreeBelow c d place
    → class_of j c place ≡ class_of j d place
class_local j fits c d place within agree =
    ap (λ classes. class_in classes place) (classes_local j fits c d (place + 1) (omega arith)
    (λ k less. agree k (omega arith)))
