-- A place is calm where its class tells that it is.
use Rattle.std.proofs.Common.{◌≡◌, ℕ, zero, suc, ◌<◌, ◌==◌, ◌||◌, not, Bool, true, false, List, refl, sym, ap, ◌∙◌}
use Rattle.std.proofs.Common.{arith, subst}
use Rattle.std.proofs.lemmas.Bool.{and_parts}
use Rattle.design_cell.specs.declared.value.Value.{Value}
use Rattle.design_cell.specs.Value.{bit_value, is_unknown}
use Rattle.design_circuit.specs.declared.design.Driver.{Driver}
use Rattle.design_circuit.specs.declared.design.Driver.TheVariants.{Cell, Constant, Copy, Input, Register, Undriven}
use Rattle.design_circuit.specs.declared.design.Latching.{Latching}
use Rattle.design_circuit.specs.declared.design.Pin.{Pin}
use Rattle.design_circuit.specs.declared.design.Table.{Table}
use Rattle.design_circuit.specs.declared.stim.Levels.{Levels}
use Rattle.design_circuit.specs.declared.stim.Levels.TheVariants.{Change, Hold}
use Rattle.design_circuit.specs.Fits.{Fits}
use Rattle.design_circuit.specs.Job.{Job, net_of, places_of, step_of}
use Rattle.design_circuit.specs.Register.{has_uncertain_clock}
use Rattle.law_model.specs.Class.{class_of, is_never_unknown}
use Rattle.law_model.specs.declared.class.ClassByNumber.{ClassByNumber}
use Rattle.law_model.specs.declared.class.ClassByNumber.TheVariants.{Carried, Free, Line, Local}
use Rattle.wave_class.specs.Facts.{AgreesWith, is_plain}
use Rattle.wave_class.specs.Keeps.{cell_chooses}
use Rattle.wave_class.proofs.MixedClasses.{never_unknown}
use Rattle.wave_class.proofs.SteadyClasses.{clock_certain, open_tests}
use Rattle.law_quiet.specs.Ahead.{IsCarriedOrLocal, ToldLaw, by_change, cell_tells, is_calm_of, register_tells}
use Rattle.law_quiet.specs.Ahead.{tells_calm_of}
use Rattle.law_quiet.specs.Due.{driver_of, is_clocked}
use Rattle.law_quiet.proofs.QuietStays.{cell_law}
use Rattle.law_quiet.proofs.QuietTests.{both_tests}

not_true : (b : Bool) → not b ≡ true → b ≡ false
not_true false h = refl
not_true true h = cc

-- A cell.
by_kind : (j : Job) → Fits j → (c : ℕ → Value) (place : ℕ) (table : Table) (pins : List Pin) → place < places_of j
    → driver_of j place ≡ Cell table pins → IsCarriedOrLocal (class_of j c place) → is_never_unknown j c place ≡ true
by_kind j fits c place table pins within driver kind =
    ap (is_calm_of j c place (step_of j place)) (sym driver) ∙ cell_law j c place table pins fits within driver kind

cell_told : (j : Job) → Fits j → (c : ℕ → Value) (place : ℕ) (table : Table) (pins : List Pin) (class : ClassByNumber)
    → place < places_of j → driver_of j place ≡ Cell table pins → class_of j c place ≡ class
    → cell_tells table pins class ≡ true → is_never_unknown j c place ≡ true
cell_told j fits c place table pins (Local bit) within driver is tells =
    by_kind j fits c place table pins within driver (subst IsCarriedOrLocal (sym is) tt)
cell_told j fits c place table pins Free within driver is tells = cc
cell_told j fits c place table pins (Carried from inverted) within driver is tells =
    by_kind j fits c place table pins within driver (subst IsCarriedOrLocal (sym is) tt)
cell_told j fits c place table pins Line within driver is tells =
    never_unknown j fits c place table pins within driver (not_true (cell_chooses table pins) tells)

-- A register: where it is neither local nor free, it reads bits, so that its clock pins are certain.
later : (step : ℕ) → not (step == 0) ≡ true → 0 < step
later zero is = cc
later (suc step) is = omega arith

bit_known : (v : Value) (bit : Bool) → v ≡ bit_value bit → not (is_unknown v) ≡ true
bit_known v false is = ap (λ w. not (is_unknown w)) is
bit_known v true is = ap (λ w. not (is_unknown w)) is

either_right : (a b : Bool) → b ≡ true → a || b ≡ true
either_right false b is = is
either_right true b is = refl

either_left : (a b : Bool) → a ≡ true → a || b ≡ true
either_left true b is = refl
either_left false b is = cc

clocked : (j : Job) → Fits j → (c : ℕ → Value) (place : ℕ) (latching : Latching) → place < places_of j
    → 0 < step_of j place
    → driver_of j place ≡ Register latching → is_plain (class_of j c place) ≡ false
    → has_uncertain_clock j c (step_of j place) latching ≡ false
clocked j fits c place latching within more driver none =
    let tests = open_tests j fits c place within none in
    clock_certain j c place (step_of j place) (net_of j place) latching
    (has_uncertain_clock j c (step_of j place) latching)
    more refl refl driver tests.0 tests.1 tests.2 refl

certain_told : (levels : Levels) (uncertain unknown : Bool) → uncertain ≡ false
    → is_clocked levels uncertain uncertain unknown ≡ true
certain_told Change uncertain unknown none = either_left (not uncertain) (not unknown) (ap not none)
certain_told Hold uncertain unknown none = ap not none

local_told : (levels : Levels) (uncertain unknown : Bool) → by_change levels ≡ true → not unknown ≡ true
    → is_clocked levels uncertain uncertain unknown ≡ true
local_told Change uncertain unknown tells known = either_right (not uncertain) (not unknown) known
local_told Hold uncertain unknown tells known = cc

register_told : (j : Job) → Fits j → (c : ℕ → Value) (place : ℕ) (latching : Latching) (levels : Levels)
    (class : ClassByNumber) → place < places_of j → 0 < step_of j place → driver_of j place ≡ Register latching
    → class_of j c place ≡ class → AgreesWith c class (c place) → register_tells levels class ≡ true
    → is_clocked levels (has_uncertain_clock j c (step_of j place) latching)
    (has_uncertain_clock j c (step_of j place) latching) (is_unknown (c place)) ≡ true
register_told j fits c place latching levels (Local bit) within more driver is agrees tells =
    local_told levels (has_uncertain_clock j c (step_of j place) latching) (is_unknown (c place)) tells
    (bit_known (c place) bit agrees)
register_told j fits c place latching levels Free within more driver is agrees tells = cc
register_told j fits c place latching levels (Carried from inverted) within more driver is agrees tells =
    certain_told levels (has_uncertain_clock j c (step_of j place) latching) (is_unknown (c place))
    (clocked j fits c place latching within more driver (ap is_plain is))
register_told j fits c place latching levels Line within more driver is agrees tells =
    certain_told levels (has_uncertain_clock j c (step_of j place) latching) (is_unknown (c place))
    (clocked j fits c place latching within more driver (ap is_plain is))

told_of : (j : Job) → Fits j → (c : ℕ → Value) (place : ℕ) (driver : Driver) → place < places_of j
    → AgreesWith c (class_of j c place) (c place) → driver_of j place ≡ driver
    → tells_calm_of j.levels (step_of j place) driver (class_of j c place) ≡ true
    → is_calm_of j c place (step_of j place) driver ≡ true
told_of j fits c place Input within agrees is tells = refl
told_of j fits c place Undriven within agrees is tells = refl
told_of j fits c place (Constant bit) within agrees is tells = refl
told_of j fits c place (Copy argument) within agrees is tells = refl
told_of j fits c place (Cell table pins) within agrees is tells =
    cell_told j fits c place table pins (class_of j c place) within is refl tells
told_of j fits c place (Register latching) within agrees is tells =
    let both = and_parts (not (step_of j place == 0)) (register_tells j.levels (class_of j c place)) tells in
    both_tests (not (step_of j place == 0))
    (is_clocked j.levels (has_uncertain_clock j c (step_of j place) latching)
    (has_uncertain_clock j c (step_of j place) latching) (is_unknown (c place))) both.0
    (register_told j fits c place latching j.levels (class_of j c place) within (later (step_of j place) both.0) is refl
    agrees both.1)

pub told_law : ToldLaw
told_law j c place fits within agrees tells = told_of j fits c place (driver_of j place) within agrees refl tells
