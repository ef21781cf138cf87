-- Places all of whose arguments are certain: their drivers make of these what their rules make for every assignment.
use Rattle.std.proofs.Common.{◌≡◌, ℕ, ◌+◌, ◌-◌, ◌*◌, ◌%◌, ◌<◌, ◌≤◌, ◌==◌, not, Bool, true, false, None, Some, ⊎_elim}
use Rattle.std.proofs.Common.{List, [], ◌∷◌, length, map, refl, sym, ap, ◌∙◌, arith, subst, if◌then◌else◌}
use Rattle.std.specs.List.{list_all}
use Rattle.std.proofs.lemmas.Bool.{and_parts, ne_eqb}
use Rattle.std.proofs.lemmas.List.{length-map}
use Rattle.design_cell.specs.declared.value.Value.{Value}
use Rattle.design_cell.specs.declared.value.Value.TheVariants.{Zero, One, X, Z}
use Rattle.design_cell.specs.Value.{IsKnown, bit_value, is_unknown}
use Rattle.design_circuit.specs.declared.design.Driver.TheVariants.{Cell, Register}
use Rattle.design_circuit.specs.declared.design.Latching.{Latching}
use Rattle.design_circuit.specs.declared.design.Pin.{Pin}
use Rattle.design_circuit.specs.declared.design.Pin.TheVariants.{Net, Bit, Dead}
use Rattle.design_circuit.specs.declared.design.Table.{Table}
use Rattle.design_circuit.specs.Fits.{Fits, FitsDriver, FitsTable}
use Rattle.design_circuit.specs.Job.{Job, at, net_of, places_of, step_of}
use Rattle.design_circuit.specs.Order.{net_pins, position_of}
use Rattle.design_circuit.specs.Register.{has_uncertain_clock, pins_at, two_back}
use Rattle.design_circuit.specs.Replay.{table_of}
use Rattle.design_circuit.specs.Rule.{as_values, old_places, places_at, places_back, register_rule, remade, rule, rule_of}
use Rattle.design_circuit.specs.World.{decided}
use Rattle.design_circuit.proofs.Rules.{AgreeOn, remade_reads, spot}
use Rattle.design_circuit.proofs.TwoBack.{back_either}
use Rattle.law_model.specs.Assignment.{assigned}
use Rattle.design_wiring.specs.Wired.{placed}
use Rattle.design_wiring.proofs.Jobs.{table_few}
use Rattle.wave_class.specs.Facts.{plain_class}
use Rattle.wave_class.specs.Keeps.{class_here}
use Rattle.design_wiring.specs.declared.wiring.Kind.TheVariants as kind
use Rattle.wave_class.specs.Wires.{PlaceSeesKnown, SeesKnown, Stands, StandsCell, nets_known, positions_known}
use Rattle.wave_class.specs.Wires.{values_there}
use Rattle.wave_class.proofs.QuickClasses.{class_given}
use Rattle.wave_class.proofs.SteadyClasses.{back_at}
use Rattle.wave_class.proofs.WiredPlaces.{cell_here, first_here, is_spot, nets_placed, register_here, spot_here}
use Rattle.wave_class.proofs.WiredRegisters.{first_one_back, first_two_back, same_latching}

-- A certain value stands for every assignment.
stands : (v : Value) (bit : Bool) → not (is_unknown v) ≡ true → bit_value (decided v bit) ≡ v
stands Zero bit known = refl
stands One bit known = refl
stands X bit known = cc
stands Z bit known = cc

-- So do the values of pins.
pins_stand : (j : Job) (c : ℕ → Value) (bits : ℕ → Bool) (step : ℕ) (pins : List Pin)
    → nets_known j c step (net_pins pins) ≡ true
    → pins_at j (as_values (assigned c bits)) step pins ≡ pins_at j c step pins
pins_stand j c bits step [] known = refl
pins_stand j c bits step (Net net ∷ pins) known =
    let parts = and_parts (not (is_unknown (c (at j step net)))) (nets_known j c step (net_pins pins)) known in
    rw (stands (c (at j step net)) (bits (at j step net)) parts.0, pins_stand j c bits step pins parts.1) refl
pins_stand j c bits step (Bit bit ∷ pins) known = rw (pins_stand j c bits step pins known) refl
pins_stand j c bits step (Dead ∷ pins) known = rw (pins_stand j c bits step pins known) refl

rule_cell : (j : Job) (c : ℕ → Value) (bits : ℕ → Bool) (place : ℕ) (table : Table) (pins : List Pin)
    → j.driver (net_of j place) ≡ Cell table pins
    → rule j c bits place ≡ table_of j.udps table (pins_at j (as_values bits) (step_of j place) pins)
unfolding rule
rule_cell j c bits place table pins driver = ap (rule_of j c bits (step_of j place) (net_of j place)) driver

cell_is : (j : Job) (c : ℕ → Value) (place : ℕ) (table : Table) (pins : List Pin)
    → j.driver (net_of j place) ≡ Cell table pins → nets_known j c (step_of j place) (net_pins pins) ≡ true
    → class_here j c place ≡ plain_class (table_of j.udps table (pins_at j c (step_of j place) pins))
cell_is j c place table pins driver known =
    class_given j c place (table_of j.udps table (pins_at j c (step_of j place) pins))
    (λ bits. rule_cell j c (assigned c bits) place table pins driver
    ∙ ap (table_of j.udps table) (pins_stand j c bits (step_of j place) pins known))

-- The same by the positions of the nets.
values_placed : (j : Job) (c : ℕ → Value) (step first : ℕ) (own : List Pin) → first ≡ step * j.width
    → values_there c first (map (placed j.order) own) ≡ pins_at j c step own
values_placed j c step first [] is = refl
values_placed j c step first (Net net ∷ own) is =
    rw (ap (λ f. c (f + position_of j.order net)) is, values_placed j c step first own is) refl
values_placed j c step first (Bit bit ∷ own) is = rw (values_placed j c step first own is) refl
values_placed j c step first (Dead ∷ own) is = rw (values_placed j c step first own is) refl

pub known_placed : (j : Job) (c : ℕ → Value) (step first : ℕ) (pins own : List Pin) → pins ≡ map (placed j.order) own
    → first ≡ step * j.width → positions_known c first pins ≡ nets_known j c step (net_pins own)
known_placed j c step first pins own are is =
    ap (list_all (λ position. not (is_unknown (c (first + position))))) (ap net_pins are ∙ nets_placed j.order own)
    ∙ each (net_pins own)
  where
    each : (nets : List ℕ) → list_all (λ position. not (is_unknown (c (first + position))))
        (map (position_of j.order) nets)
        ≡ nets_known j c step nets
    each [] = refl
    each (net ∷ nets) = rw (ap (λ f. c (f + position_of j.order net)) is, each nets) refl

pub cell_settled : (j : Job) → Fits j → (c : ℕ → Value) (place position : ℕ) (table : Table) (pins : List Pin)
    → place < places_of j → position ≡ place % j.width → StandsCell j place table pins
    → positions_known c (place - position) pins ≡ true
    → class_here j c place ≡ plain_class (table_of j.udps table (values_there c (place - position) pins))
cell_settled j fits c place position table pins within is stands known =
    let here = cell_here j place table pins stands in
    let first = first_here j fits place position within is in
    cell_is j c place table here.own here.driver
    (sym (known_placed j c (step_of j place) (place - position) pins here.own here.pins_are first) ∙ known)
    ∙ ap (λ values. plain_class (table_of j.udps table values))
    (sym (ap (values_there c (place - position)) here.pins_are
    ∙ values_placed j c (step_of j place) (place - position) here.own first))

-- A cell has as many pins as its table takes, at most 10.
pub cell_fits : (j : Job) → Fits j → (place : ℕ) (table : Table) (pins : List Pin) → place < places_of j
    → StandsCell j place table pins → FitsTable j.udps table (length pins)
cell_fits j fits place table pins within stands =
    let here = cell_here j place table pins stands in
    subst (FitsTable j.udps table) (sym (ap length here.pins_are ∙ length-map here.own (placed j.order)))
    (subst (FitsDriver j.udps j.width) here.driver (spot j fits place within).driver)

pub cell_few : (j : Job) → Fits j → (place : ℕ) (table : Table) (pins : List Pin) → place < places_of j
    → StandsCell j place table pins → length pins ≤ 10
cell_few j fits place table pins within stands =
    table_few j.udps table (length pins) (cell_fits j fits place table pins within stands)

-- A register: whether a clock pin is certain or not, it makes the same of certain values.
places_stand : (j : Job) (c : ℕ → Value) (bits : ℕ → Bool) (step : ℕ) (pins : List Pin)
    → nets_known j c step (net_pins pins) ≡ true → AgreeOn (as_values (assigned c bits)) c (places_at j step pins)
places_stand j c bits step pins known = each (net_pins pins) known
  where
    each : (nets : List ℕ) → nets_known j c step nets ≡ true
        → AgreeOn (as_values (assigned c bits)) c (map (at j step) nets)
    each [] known = tt
    each (net ∷ nets) known =
        let parts = and_parts (not (is_unknown (c (at j step net)))) (nets_known j c step nets) known in
        (stands (c (at j step net)) (bits (at j step net)) parts.0, each nets parts.1)

back_agree : (j : Job) (f g : ℕ → Value) (step : ℕ) (pins : List Pin) → 0 < step
    → AgreeOn f g (places_at j (step - 2) pins) → AgreeOn f g (old_places j step pins)
back_agree j f g step pins later agree = ⊎_elim
    (λ (none : two_back j step ≡ None). subst (λ back. AgreeOn f g (places_back j pins back)) (sym none) tt)
    (λ (some : two_back j step ≡ Some (step - 2)).
    subst (λ back. AgreeOn f g (places_back j pins back)) (sym some) agree)
    (back_either j step later)

either_way : (first unclocked : Bool) (start v w : Value) → first ≡ false → w ≡ v
    → (if first then start else if unclocked then v else w) ≡ v
either_way true unclocked start v w is same = cc
either_way false true start v w is same = refl
either_way false false start v w is same = same

rule_register : (j : Job) (c : ℕ → Value) (bits : ℕ → Bool) (place : ℕ) (latching : Latching)
    → j.driver (net_of j place) ≡ Register latching
    → rule j c bits place ≡ register_rule j c bits (step_of j place) (net_of j place) latching
unfolding rule
rule_register j c bits place latching driver = ap (rule_of j c bits (step_of j place) (net_of j place)) driver

pub register_settled : (j : Job) (c : ℕ → Value) (place : ℕ) (latching : Latching) → 0 < step_of j place
    → j.driver (net_of j place) ≡ Register latching → SeesKnown j c (step_of j place) (net_of j place) latching
    → class_here j c place
    ≡ plain_class (remade j c (c (at j (step_of j place - 1) (net_of j place))) (step_of j place) latching)
register_settled j c place latching later driver sees = class_given j c place _ (λ bits. (
    let step = step_of j place in
    let own = at j (step - 1) (net_of j place) in
    rule_register j c (assigned c bits) place latching driver
    ∙ either_way (step == 0) (has_uncertain_clock j c step latching) _ (remade j c (c own) step latching) _
    (ne_eqb step 0 (λ e. omega (arith, e, later)))
    (remade_reads j (as_values (assigned c bits)) c (bit_value (assigned c bits own)) (c own) step latching
    (back_agree j (as_values (assigned c bits)) c step latching.pins later
    (places_stand j c bits (step - 2) latching.pins sees.old))
    (places_stand j c bits (step - 1) latching.pins sees.new)
    (stands (c own) (bits own) sees.own))
    ))

-- Whether it sees certain values, by its wire.
pub known_bool : (v : Value) → IsKnown v → not (is_unknown v) ≡ true
known_bool Zero known = refl
known_bool One known = refl
known_bool X known = absurd known
known_bool Z known = absurd known

pub known_there : (j : Job) → Fits j → (c : ℕ → Value) (place position width : ℕ) (pins : List Pin)
    → place < places_of j → position ≡ place % j.width → Stands j place kind.Register pins → width ≡ j.width
    → 3 ≤ step_of j place → not (is_unknown (c (place - width))) ≡ true
    → positions_known c (place - position - width) pins ≡ true
    → positions_known c (place - position - width - width) pins ≡ true → PlaceSeesKnown j c place
known_there j fits c place position width pins within is stands width_is more own new old = λ latching driver. (
    let here = register_here j place pins stands in
    let seen : SeesKnown j c (step_of j place) (net_of j place) here.0 = record {
      own = ap (λ k. not (is_unknown (c k))) (sym (back_at j fits place width (spot_here j place)
          (is_spot j fits place within) width_is (omega (arith, more)))) ∙ own;
      new = sym (known_placed j c (step_of j place - 1) (place - position - width) pins here.0.pins here.2
          (first_one_back j fits place position width within is width_is)) ∙ new;
      old = sym (known_placed j c (step_of j place - 2) (place - position - width - width) pins here.0.pins here.2
          (first_two_back j fits place position width within is width_is)) ∙ old;
    } in
    subst (SeesKnown j c (step_of j place) (net_of j place)) (same_latching here.0 latching (sym here.1 ∙ driver)) seen
    )
