-- Places whose pins keep, by their wires.
use Rattle.std.proofs.Common.{◌≡◌, ℕ, ◌+◌, ◌-◌, ◌%◌, ◌<◌, ◌≤◌, true, false, List, [], ◌∷◌, refl, sym, ap, ◌∙◌, arith}
use Rattle.std.proofs.Common.{subst}
use Rattle.std.specs.List.{AllByRecursion, list_all}
use Rattle.design_cell.specs.declared.value.Value.{Value}
use Rattle.design_circuit.specs.declared.design.Driver.{Driver}
use Rattle.design_circuit.specs.declared.design.Driver.TheVariants.{Cell, Register}
use Rattle.design_circuit.specs.declared.design.Latching.{Latching}
use Rattle.design_circuit.specs.declared.design.Pin.{Pin}
use Rattle.design_circuit.specs.declared.design.Table.{Table}
use Rattle.design_circuit.specs.Circuit.{Reach}
use Rattle.design_circuit.specs.Fits.{Fits, FitsDriver, Standing, StandsBefore}
use Rattle.design_circuit.specs.Job.{Job, net_of, places_of, step_of}
use Rattle.design_circuit.specs.Order.{arguments_of_driver, net_pins}
use Rattle.design_circuit.proofs.Rules.{spot}
use Rattle.law_model.specs.Class.{before, is_never_unknown}
use Rattle.wave_class.specs.Facts.{AgreeBefore, AllKeep, AreFacts, Facts}
use Rattle.wave_class.specs.Keeps.{cell_chooses, nets_keep, place_passes}
use Rattle.wave_class.specs.Wires.{Reaches, StandsCell, positions_keep}
use Rattle.wave_class.proofs.MixedClasses.{never_unknown}
use Rattle.wave_class.proofs.MovedRules.{SameKinds}
use Rattle.wave_class.proofs.Reached.{nets_back, nets_standing}
use Rattle.wave_class.proofs.SteadyClasses.{before_less, cell_kinds, cell_on, nets_two_back, one_back}
use Rattle.wave_class.proofs.WiredPlaces.{cell_here, chooses_placed, first_here, is_spot, later_step, pins_keep_there}
use Rattle.wave_class.proofs.WiredPlaces.{pins_reach, spot_here}

-- The pins of a cell stand before its place.
cell_stands : (j : Job) → Fits j → (place : ℕ) (table : Table) (own : List Pin) → place < places_of j
    → j.driver (net_of j place) ≡ Cell table own
    → AllByRecursion (Reach j (λ k. k < place) (step_of j place)) (net_pins own)
cell_stands j fits place table own within driver =
    nets_standing j place (spot_here j place) (net_pins own) (is_spot j fits place within)
    (subst (λ (d : Driver). AllByRecursion (StandsBefore j (place % j.width)) (arguments_of_driver d)) driver
    (spot j fits place within).before)

pub cell_reach : (j : Job) → Fits j → (has : ℕ → Type 0) (place position : ℕ) (table : Table) (pins : List Pin)
    → place < places_of j → position ≡ place % j.width → StandsCell j place table pins
    → ((k : ℕ) → k < place → has k) → AllByRecursion (Reaches has (place - position)) (net_pins pins)
cell_reach j fits has place position table pins within is stands all =
    let here = cell_here j place table pins stands in
    let few = fits.few_places in
    pins_reach j has place (step_of j place) (place - position) pins here.own here.pins_are
    (first_here j fits place position within is) (omega (arith, few, within)) all
    (cell_stands j fits place table here.own within here.driver)

-- Where all places before a cell's in its step keep, so do the nets of its pins.
pub all_pins_keep : (j : Job) → Fits j → (facts : ℕ → Facts) (place position : ℕ) (table : Table) (pins : List Pin)
    → place < places_of j → position ≡ place % j.width → StandsCell j place table pins
    → AllKeep facts (place - position) place → positions_keep facts (place - position) pins ≡ true
all_pins_keep j fits facts place position table pins within is stands keep =
    each (net_pins pins) (cell_reach j fits (λ k. place - position ≤ k → (facts k).keeps ≡ true) place position table
    pins within is stands (λ k less more. keep k more less))
  where
    each : (nets : List ℕ)
        → AllByRecursion (Reaches (λ k. place - position ≤ k → (facts k).keeps ≡ true) (place - position)) nets
        → list_all (λ net. (facts (place - position + net)).keeps) nets ≡ true
    each [] reach = refl
    each (net ∷ nets) reach = rw (reach.0.has_it (omega arith), each nets reach.1) refl

-- What a place has whose pins all keep.
pub record Steady (j : Job) (c : ℕ → Value) (place : ℕ) : Type 0 where
  pub less : before j place < place
  pub kinds : SameKinds j c place (before j place)
  pub passes : is_never_unknown j c place ≡ true → place_passes j c place ≡ true

pub cell_steady : (j : Job) → Fits j → (c : ℕ → Value) (facts : ℕ → Facts) (place position : ℕ) (table : Table)
    (pins : List Pin) → place < places_of j → position ≡ place % j.width → StandsCell j place table pins
    → AreFacts j c facts place → AgreeBefore j c place → j.width ≤ place
    → positions_keep facts (place - position) pins ≡ true → Steady j c place
cell_steady j fits c facts place position table pins within is stands are agree more keep =
    let here = cell_here j place table pins stands in
    let s = spot j fits place within in
    let at_spot = is_spot j fits place within in
    let later = later_step j.width (step_of j place) (place % j.width) place s.whole s.position more in
    let standing : Standing j (spot_here j place).position (net_pins here.own) =
    subst (λ (d : Driver). AllByRecursion (StandsBefore j (place % j.width)) (arguments_of_driver d)) here.driver
    s.before in
    let own_keep : nets_keep j c (step_of j place) (net_pins here.own) ≡ true =
    sym (pins_keep_there j fits c facts place (step_of j place) (place - position) pins here.own here.pins_are are
    (first_here j fits place position within is) (cell_stands j fits place table here.own within here.driver)) ∙ keep in
    record {
      less = before_less j fits place (spot_here j place) at_spot later;
      kinds = cell_kinds j fits c place (spot_here j place) table here.own at_spot later here.driver standing agree
          own_keep;
      passes = λ known. cell_on j c place (spot_here j place) table here.own at_spot later here.driver own_keep known;
    }

-- A cell that doesn't choose, and one whose place a step before carries on, is never unknown.
pub cell_known : (j : Job) → Fits j → (c : ℕ → Value) (place : ℕ) (table : Table) (pins : List Pin)
    → place < places_of j
    → StandsCell j place table pins → cell_chooses table pins ≡ false → is_never_unknown j c place ≡ true
cell_known j fits c place table pins within stands never =
    let here = cell_here j place table pins stands in
    never_unknown j fits c place table here.own within here.driver
    (sym (ap (cell_chooses table) here.pins_are ∙ chooses_placed j.order table here.own) ∙ never)

-- The net a step before is the same.
pub net_back : (j : Job) → Fits j → (place : ℕ) → place < places_of j → j.width ≤ place
    → net_of j (before j place) ≡ net_of j place
net_back j fits place within more =
    let s = spot j fits place within in
    (one_back j fits place (spot_here j place) (is_spot j fits place within)
    (later_step j.width (step_of j place) (place % j.width) place s.whole s.position more)).back_net

-- Where a register looks back to.
abbrev pub BackOf : Job → ℕ → ℕ → Latching → Type 0
BackOf j place step latching = AllByRecursion (Reach j (λ k. k < place) step) (net_pins latching.pins)

pub register_nets : (j : Job) → Fits j → (place : ℕ) (latching : Latching) → place < places_of j
    → j.driver (net_of j place) ≡ Register latching → AllByRecursion (λ net. net < j.width) (net_pins latching.pins)
register_nets j fits place latching within driver =
    (subst (λ (d : Driver). FitsDriver j.udps j.width d) driver (spot j fits place within).driver).nets

pub register_back : (j : Job) → Fits j → (place : ℕ) (latching : Latching) → place < places_of j
    → j.driver (net_of j place) ≡ Register latching → 0 < step_of j place
    → BackOf j place (step_of j place - 1) latching × BackOf j place (step_of j place - 2) latching
register_back j fits place latching within driver later = (
  nets_back j fits place (spot_here j place) (net_pins latching.pins) (is_spot j fits place within) later
      (register_nets j fits place latching within driver),
  nets_two_back j fits place (spot_here j place) (net_pins latching.pins) (is_spot j fits place within) later
      (register_nets j fits place latching within driver),
)
