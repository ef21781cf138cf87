-- Where a register looks back, by its wire.
use Rattle.std.proofs.Common.{◌≡◌, ℕ, ◌-◌, ◌*◌, ◌%◌, ◌<◌, ◌≤◌, true, false, List, sym, ap, ◌∙◌, arith, subst}
use Rattle.std.specs.List.{AllByRecursion}
use Rattle.design_cell.specs.declared.value.Value.{Value}
use Rattle.design_circuit.specs.declared.design.Driver.TheVariants.{Register}
use Rattle.design_circuit.specs.declared.design.Latching.{Latching}
use Rattle.design_circuit.specs.declared.design.Pin.{Pin}
use Rattle.design_circuit.specs.Fits.{Fits}
use Rattle.design_circuit.specs.Job.{Job, at, net_of, places_of, step_of}
use Rattle.design_circuit.specs.Order.{net_pins}
use Rattle.design_circuit.proofs.Rules.{spot}
use Rattle.design_wiring.specs.declared.wiring.Kind.TheVariants as kind
use Rattle.law_model.specs.Class.{before, class_of}
use Rattle.wave_class.specs.Facts.{AgreeBefore, AreFacts, Facts, is_plain}
use Rattle.wave_class.specs.Keeps.{SeesTheSame, place_passes}
use Rattle.wave_class.specs.Wires.{PlaceSeesTheSame, Reaches, Stands, positions_keep}
use Rattle.wave_class.proofs.MovedRules.{SameKinds}
use Rattle.wave_class.proofs.SteadyClasses.{back_at, before_less, register_kinds, register_on, two_back_at}
use Rattle.wave_class.proofs.WiredPlaces.{first_back, first_here, is_spot, pins_keep_there, pins_reach, register_here}
use Rattle.wave_class.proofs.WiredPlaces.{spot_here, steps_back}
use Rattle.wave_class.proofs.WiredSteady.{register_back, register_nets}

-- The step is the third or a later one.
pub steps_enough : (j : Job) → Fits j → (place position width : ℕ) → place < places_of j → position ≡ place % j.width
    → width ≡ j.width → 3 * width ≤ place - position → 3 ≤ step_of j place
steps_enough j fits place position width within is width_is more =
    let s = spot j fits place within in
    let low = s.position in
    let first = first_here j fits place position within is in
    steps_back j.width (step_of j place) (omega (arith, low)) (omega (arith, first, more, width_is))

pub wide_enough : (j : Job) (place position width : ℕ) → width ≡ j.width → 3 * width ≤ place - position
    → j.width ≤ place
wide_enough j place position width width_is more = omega (arith, more, width_is)

-- The first places of the steps that it looks back at.
pub first_one_back : (j : Job) → Fits j → (place position width : ℕ) → place < places_of j → position ≡ place % j.width
    → width ≡ j.width → place - position - width ≡ (step_of j place - 1) * j.width
first_one_back j fits place position width within is width_is =
    ap (λ f. f - width) (first_here j fits place position within is)
    ∙ ap (λ w. step_of j place * j.width - w) width_is ∙ first_back j.width (step_of j place)

pub first_two_back : (j : Job) → Fits j → (place position width : ℕ) → place < places_of j → position ≡ place % j.width
    → width ≡ j.width → place - position - width - width ≡ (step_of j place - 2) * j.width
first_two_back j fits place position width within is width_is =
    let less : step_of j place - 1 - 1 ≡ step_of j place - 2 = omega arith in
    ap (λ f. f - width) (first_one_back j fits place position width within is width_is)
    ∙ ap (λ w. (step_of j place - 1) * j.width - w) width_is ∙ first_back j.width (step_of j place - 1)
    ∙ ap (λ s. s * j.width) less

-- Its pins reach there.
pub pins_one_back : (j : Job) → Fits j → (has : ℕ → Type 0) (place position width : ℕ) (pins : List Pin)
    → place < places_of j → position ≡ place % j.width → Stands j place kind.Register pins → width ≡ j.width
    → 3 ≤ step_of j place → ((k : ℕ) → k < place → has k)
    → AllByRecursion (Reaches has (place - position - width)) (net_pins pins)
pins_one_back j fits has place position width pins within is stands width_is more all =
    let here = register_here j place pins stands in
    let few = fits.few_places in
    pins_reach j has place (step_of j place - 1) (place - position - width) pins here.0.pins here.2
    (first_one_back j fits place position width within is width_is) (omega (arith, few, within)) all
    (register_back j fits place here.0 within here.1 (omega (arith, more))).0

pub pins_two_back : (j : Job) → Fits j → (has : ℕ → Type 0) (place position width : ℕ) (pins : List Pin)
    → place < places_of j → position ≡ place % j.width → Stands j place kind.Register pins → width ≡ j.width
    → 3 ≤ step_of j place → ((k : ℕ) → k < place → has k)
    → AllByRecursion (Reaches has (place - position - width - width)) (net_pins pins)
pins_two_back j fits has place position width pins within is stands width_is more all =
    let here = register_here j place pins stands in
    let few = fits.few_places in
    pins_reach j has place (step_of j place - 2) (place - position - width - width) pins here.0.pins here.2
    (first_two_back j fits place position width within is width_is) (omega (arith, few, within)) all
    (register_back j fits place here.0 within here.1 (omega (arith, more))).1

-- The two places of its own net that it looks at.
pub own_same : (j : Job) → Fits j → (c : ℕ → Value) (place width : ℕ) → place < places_of j → width ≡ j.width
    → 3 ≤ step_of j place → c (place - width) ≡ c (place - width - width)
    → c (at j (step_of j place - 1) (net_of j place)) ≡ c (at j (step_of j place - 2) (net_of j place))
own_same j fits c place width within width_is more same =
    let here = is_spot j fits place within in
    ap c (sym (back_at j fits place width (spot_here j place) here width_is (omega (arith, more)))) ∙ same
    ∙ ap c (two_back_at j fits place width (spot_here j place) here width_is (omega (arith, more)))

pub same_latching : (a b : Latching) → Register a ≡ Register b → a ≡ b
same_latching a b same = cc

-- It sees the same where its own net and its pins say so.
pub same_there : (j : Job) → Fits j → (c : ℕ → Value) (facts : ℕ → Facts) (place position width : ℕ) (pins : List Pin)
    → place < places_of j → position ≡ place % j.width → Stands j place kind.Register pins → width ≡ j.width
    → AreFacts j c facts place → 3 ≤ step_of j place → c (place - width) ≡ c (place - width - width)
    → positions_keep facts (place - position - width) pins ≡ true
    → positions_keep facts (place - position - width - width) pins ≡ true → PlaceSeesTheSame j c place
same_there j fits c facts place position width pins within is stands width_is are more own new old =
    λ latching driver. (
    let here = register_here j place pins stands in
    let back = register_back j fits place here.0 within here.1 (omega (arith, more)) in
    let seen : SeesTheSame j c (step_of j place) (net_of j place) here.0 = record {
      later = more;
      own = own_same j fits c place width within width_is more own;
      new = sym (pins_keep_there j fits c facts place (step_of j place - 1) (place - position - width) pins here.0.pins
          here.2 are (first_one_back j fits place position width within is width_is) back.0) ∙ new;
      old = sym (pins_keep_there j fits c facts place (step_of j place - 2) (place - position - width - width) pins
          here.0.pins here.2 are (first_two_back j fits place position width within is width_is) back.1) ∙ old;
    } in
    subst (SeesTheSame j c (step_of j place) (net_of j place)) (same_latching here.0 latching (sym here.1 ∙ driver))
    seen
    )

-- What such a place has.
pub record Seen (j : Job) (c : ℕ → Value) (place : ℕ) : Type 0 where
  pub less : before j place < place
  pub kinds : SameKinds j c place (before j place)
  pub passes : is_plain (class_of j c (before j place)) ≡ false → place_passes j c place ≡ true

pub register_seen : (j : Job) → Fits j → (c : ℕ → Value) (place : ℕ) (pins : List Pin) → place < places_of j
    → Stands j place kind.Register pins → AgreeBefore j c place → PlaceSeesTheSame j c place → Seen j c place
register_seen j fits c place pins within stands agree sees =
    let here = register_here j place pins stands in
    let same = sees here.0 here.1 in
    let more = same.later in
    let at_spot = is_spot j fits place within in
    let later : 0 < step_of j place = omega (arith, more) in
    let less = before_less j fits place (spot_here j place) at_spot later in
    let kinds = register_kinds j fits c place (spot_here j place) here.0 at_spot here.1
    (register_nets j fits place here.0 within here.1) agree same in
    record {
      less = less;
      kinds = kinds;
      passes = λ none. register_on j fits c place (spot_here j place) here.0 at_spot here.1
          (omega (arith, less, within))
          same kinds none;
    }
