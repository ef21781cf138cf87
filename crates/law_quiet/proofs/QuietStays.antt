-- A place whose net's place a step before is quiet is quiet, unless it is stirred.
use Rattle.std.proofs.Common.{◌≡◌, ℕ, zero, suc, ◌-◌, ◌<◌, ◌==◌, ◌&&◌, ◌||◌, not, Bool, true, false, List, [], ◌∷◌}
use Rattle.std.proofs.Common.{refl, sym, ap, ◌∙◌, arith, subst}
use Rattle.std.specs.List.{AllByRecursion, list_all}
use Rattle.std.proofs.lemmas.Bool.{and_parts, eq-eqb, ne_eqb}
use Rattle.design_cell.specs.declared.value.Value.{Value}
use Rattle.design_cell.specs.declared.value.Value.TheVariants.{Zero, One, X, Z}
use Rattle.design_cell.specs.Value.{is_unknown}
use Rattle.design_circuit.specs.declared.design.Driver.{Driver}
use Rattle.design_circuit.specs.declared.design.Driver.TheVariants.{Cell, Constant, Copy, Input, Register, Undriven}
use Rattle.design_circuit.specs.declared.design.Latching.{Latching}
use Rattle.design_circuit.specs.declared.design.Pin.{Pin}
use Rattle.design_circuit.specs.declared.design.Table.{Table}
use Rattle.design_circuit.specs.declared.stim.Levels.{Levels}
use Rattle.design_circuit.specs.declared.stim.Levels.TheVariants.{Change, Hold}
use Rattle.design_circuit.specs.Fits.{Fits, FitsDriver}
use Rattle.design_circuit.specs.Job.{Job, net_of, places_of, step_of}
use Rattle.design_circuit.specs.Order.{net_pins}
use Rattle.design_circuit.specs.Register.{had_uncertain_clock, has_uncertain_clock, has_unknown_clock, old_pins, pins_at}
use Rattle.design_circuit.specs.Rule.{rule}
use Rattle.design_circuit.proofs.Rules.{rule_reads, spot}
use Rattle.design_circuit.proofs.LevelRule.{clock_never}
use Rattle.design_circuit.proofs.TwoBack.{old_later}
use Rattle.law_model.specs.Assignment.{assigned, for_every}
use Rattle.law_model.specs.Class.{before, class_of, is_bit, is_never_unknown, keeps, passes_on_of}
use Rattle.law_model.specs.declared.class.ClassByNumber.{ClassByNumber}
use Rattle.law_model.specs.declared.class.ClassByNumber.TheVariants.{Local, Free, Carried, Line}
use Rattle.law_model.proofs.Assignments.{every_passes, passes_every}
use Rattle.law_model.proofs.CarryLaw.{net_at, step_at}
use Rattle.law_model.proofs.ClassFromClasses.{class_is}
use Rattle.law_model.proofs.Classes.{ClassSays, class_says}
use Rattle.wave_class.specs.Facts.{AgreeBefore}
use Rattle.wave_class.specs.Keeps.{nets_keep}
use Rattle.wave_class.proofs.MovedRules.{SameAt, values_moved}
use Rattle.wave_class.proofs.SteadyClasses.{copy_known}
use Rattle.law_quiet.specs.Due.{IsDue, IsStirred, driver_of, is_clocked}
use Rattle.law_quiet.specs.Ahead.{CalmLaw, CellLaw, IsAhead, IsCarriedOrLocal, IsStirredFrom, StaysLaw, is_calm}
use Rattle.law_quiet.specs.Ahead.{is_calm_of, taken_on}
use Rattle.law_quiet.specs.Laws.{Rests}
use Rattle.law_quiet.proofs.KeptValues.{Earlier, kept_values}
use Rattle.law_quiet.proofs.QuietAhead.{taken_keeps}
use Rattle.law_quiet.proofs.QuietAlong.{back_low}
use Rattle.law_quiet.proofs.QuietClasses.{calm_cell, keeps_law}
use Rattle.law_quiet.proofs.QuietTests.{all_pass, both_tests, had_one, quiet_later, quiet_tested, said}

-- Where the place before stands.
record Before (j : Job) (place : ℕ) : Type 0 where
  step : step_of j (before j place) ≡ step_of j place - 1
  net : net_of j (before j place) ≡ net_of j place

before_stands : (j : Job) → Fits j → (place : ℕ) → place < places_of j → Before j place
before_stands j fits place within =
    let low = (spot j fits place within).net in
    record {
      step = step_at j fits (step_of j place - 1) (net_of j place) low;
      net = net_at j fits (step_of j place - 1) (net_of j place) low;
    }

not_false : (b : Bool) → b ≡ true → b ≡ false → ⊥
not_false true is isnt = cc
not_false false is isnt = cc

not_same : (b : Bool) → b ≡ true → not b ≡ true → ⊥
not_same true is isnt = cc
not_same false is isnt = cc

-- Its clocks stay certain where the nets of its pins keep.
clock_off : (a b : Bool) → a || b ≡ false → b ≡ false
clock_off false b is = is
clock_off true b is = cc

both_off : (a b : Bool) → a ≡ false → b ≡ false → a || b ≡ false
both_off a b a_is b_is = rw (a_is, b_is) refl

clocks_stay : (j : Job) (c : ℕ → Value) (s t : ℕ) (latching : Latching) → 1 < s → t ≡ s - 1
    → SameAt j c (s - 1) (s - 2) (net_pins latching.pins) → has_uncertain_clock j c t latching ≡ false
    → has_uncertain_clock j c s latching ≡ false
clocks_stay j c s t latching more next same certain_is =
    let two : t - 1 ≡ s - 2 = omega arith in
    let back : has_unknown_clock latching.clocks (pins_at j c (s - 2) latching.pins) ≡ false =
    ap (λ k. has_unknown_clock latching.clocks (pins_at j c k latching.pins)) (sym two)
    ∙ clock_off (has_unknown_clock latching.clocks (old_pins j c t latching.pins))
    (has_unknown_clock latching.clocks (pins_at j c (t - 1) latching.pins)) certain_is in
    both_off (has_unknown_clock latching.clocks (old_pins j c s latching.pins))
    (has_unknown_clock latching.clocks (pins_at j c (s - 1) latching.pins))
    (ap (has_unknown_clock latching.clocks) (old_later j c s latching.pins more) ∙ back)
    (ap (has_unknown_clock latching.clocks) (values_moved j c (s - 1) (s - 2) latching.pins same) ∙ back)

not_true : (b : Bool) → not b ≡ true → b ≡ false
not_true false h = refl
not_true true h = cc

-- What a test of its clocks says of them.
pub unknown_clocked : (levels : Levels) (a b : Bool) → is_clocked levels a a b ≡ true → b ≡ true → a ≡ false
unknown_clocked Change a b test unknown = known_or_clocked a b test unknown
  where
    known_or_clocked : (a b : Bool) → not a || not b ≡ true → b ≡ true → a ≡ false
    known_or_clocked false b either unknown = refl
    known_or_clocked true true either unknown = cc
    known_or_clocked true false either unknown = cc
unknown_clocked Hold a b test unknown = not_true a test

held_clocked : (levels : Levels) (a b : Bool) → is_clocked levels a a b ≡ true → levels ≡ Hold → a ≡ false
held_clocked Change a b test holds = cc
held_clocked Hold a b test holds = not_true a test

clocked_on : (levels : Levels) (a had u v : Bool) → (a ≡ true → had ≡ true) → v ≡ u → is_clocked levels a had u ≡ true
    → is_clocked levels a a v ≡ true
clocked_on Change a had u v more same test = ap (λ w. not a || not w) same ∙ test
clocked_on Hold false had u v more same test = refl
clocked_on Hold true had u v more same test = ap not (sym (more refl)) ∙ test

-- A register.
taken_all : (j : Job) (c : ℕ → Value) (first step : ℕ) (nets : List ℕ) → Earlier j first step nets
    → list_all (keeps j c (taken_on j (class_of j c) first) step) nets ≡ true → nets_keep j c step nets ≡ true
taken_all j c first step [] less all = refl
taken_all j c first step (net ∷ nets) less all =
    let parts = and_parts (keeps j c (taken_on j (class_of j c) first) step net)
    (list_all (keeps j c (taken_on j (class_of j c) first) step) nets) all in
    rw (
      sym (taken_keeps j c (class_of j c) first step net less.0) ∙ parts.0,
      taken_all j c first step nets less.1
          parts.1,
    ) refl

nets_in_row : (j : Job) → Fits j → (first place : ℕ) (nets : List ℕ) → IsAhead j first place
    → (step_of j place == 0) ≡ false → AllByRecursion (λ net. net < j.width) nets
    → Earlier j first (step_of j place - 1) nets
nets_in_row j fits first place [] ahead later low = tt
nets_in_row j fits first place (net ∷ nets) ahead later low =
    let less = back_low j fits place net ahead.within later low.0 in
    let row = ahead.in_step in
    (omega (arith, less, row), nets_in_row j fits first place nets ahead later low.1)

-- What a place that is calm says of its driver.
calm_said : (j : Job) (c : ℕ → Value) (place : ℕ) (driver : Driver) → driver_of j place ≡ driver
    → is_calm j c place ≡ true
    → is_calm_of j c place (step_of j place) driver ≡ true
calm_said j c place driver is calm = ap (is_calm_of j c place (step_of j place)) (sym is) ∙ calm

after_one : (s : ℕ) → (s ≡ 0 → ⊥) → not (s - 1 == 0) ≡ true → 1 < s
after_one zero some more = absurd (some refl)
after_one (suc zero) some more = absurd (no_one more)
  where
    no_one : not (suc zero - 1 == 0) ≡ true → ⊥
    no_one h = let e : suc zero - 1 ≡ 0 = omega arith in not_same (suc zero - 1 == 0) (eq-eqb (suc zero - 1) 0 e) h
after_one (suc (suc s)) some more = omega arith

no_clock : (j : Job) → Fits j → (c : ℕ → Value) (first place : ℕ) (latching : Latching) → IsAhead j first place
    → AgreeBefore j c first → (step_of j place ≡ 0 → ⊥) → is_calm j c (before j place) ≡ true
    → (IsStirredFrom j c first place → ⊥) → driver_of j place ≡ Register latching
    → (1 < step_of j place) × (is_unknown (c (before j place)) ≡ true
    → has_uncertain_clock j c (step_of j place) latching ≡ false)
    × (j.levels ≡ Hold → had_uncertain_clock j c (step_of j place) latching ≡ false)
no_clock j fits c first place latching ahead agree some calm still driver =
    let within = ahead.within in
    let s = step_of j place in
    let back = before j place in
    let stands = before_stands j fits place within in
    let later : (s == 0) ≡ false = ne_eqb s 0 some in
    let there : driver_of j back ≡ Register latching = ap j.driver stands.net ∙ driver in
    let parts = and_parts (not (step_of j back == 0))
    (is_clocked j.levels (has_uncertain_clock j c (step_of j back) latching)
    (has_uncertain_clock j c (step_of j back) latching) (is_unknown (c back)))
    (calm_said j c back (Register latching) there calm) in
    let more : 1 < s = after_one s some (ap (λ t. not (t == 0)) (sym stands.step) ∙ parts.0) in
    let two : s - 1 - 1 ≡ s - 2 = omega arith in
    let nets : AllByRecursion (λ net. net < j.width) (net_pins latching.pins) =
    (subst (λ (d : Driver). FitsDriver j.udps j.width d) driver (spot j fits place within).driver).nets in
    let low = nets_in_row j fits first place (net_pins latching.pins) ahead later nets in
    let kept : nets_keep j c (s - 1) (net_pins latching.pins) ≡ true =
    taken_all j c first (s - 1) (net_pins latching.pins) low
    (all_pass (keeps j c (taken_on j (class_of j c) first) (s - 1)) (net_pins latching.pins)
    (λ net at moves. still (IsStirred.looked latching net driver at moves))) in
    let same : SameAt j c (s - 1) (s - 2) (net_pins latching.pins) =
    subst (λ t. SameAt j c (s - 1) t (net_pins latching.pins)) two
    (kept_values j c first (s - 1) (net_pins latching.pins) agree low kept) in (
      more,
      λ unknown. clocks_stay j c s (step_of j back) latching more stands.step same
          (unknown_clocked j.levels (has_uncertain_clock j c (step_of j back) latching) (is_unknown (c back)) parts.1
          unknown),
      λ holds. (let there = held_clocked j.levels (has_uncertain_clock j c (step_of j back) latching)
          (is_unknown (c back)) parts.1 holds in
          clock_never j c s latching (clocks_stay j c s (step_of j back) latching more stands.step same there)
          (ap (λ k. has_uncertain_clock j c k latching) (sym stands.step) ∙ there)),
    )

pub stays_law : StaysLaw
stays_law j c first place fits ahead agree some calm still (IsDue.first none) = some none
stays_law j c first place fits ahead agree some calm still (IsDue.second latching is one) =
    let more = (no_clock j fits c first place latching ahead agree some calm still is).0 in
    omega (arith, one, more)
stays_law j c first place fits ahead agree some calm still (IsDue.stirred by) = still by
stays_law j c first place fits ahead agree some calm still (IsDue.restless table pins is x) =
    let stands = before_stands j fits place ahead.within in
    not_false (is_never_unknown j c (before j place))
    (calm_said j c (before j place) (Cell table pins) (ap j.driver stands.net ∙ is) calm) x
stays_law j c first place fits ahead agree some calm still (IsDue.unclocked latching is clock own) =
    not_false (has_uncertain_clock j c (step_of j place) latching) clock
    ((no_clock j fits c first place latching ahead agree some calm still is).1 own)
stays_law j c first place fits ahead agree some calm still (IsDue.held latching is holds clock) =
    not_false (had_uncertain_clock j c (step_of j place) latching) clock
    ((no_clock j fits c first place latching ahead agree some calm still is).2 holds)

-- A quiet place is calm.
calm_of : (j : Job) → Fits j → (c : ℕ → Value) (place : ℕ) (driver : Driver) → place < places_of j
    → AgreeBefore j c place
    → Rests j c place → c place ≡ c (before j place) → driver_of j place ≡ driver
    → is_calm_of j c place (step_of j place) driver ≡ true
calm_of j fits c place Input within agree rests same is = refl
calm_of j fits c place Undriven within agree rests same is = refl
calm_of j fits c place (Constant bit) within agree rests same is = refl
calm_of j fits c place (Copy argument) within agree rests same is = refl
calm_of j fits c place (Cell table pins) within agree rests same is =
    calm_cell j fits c place table pins within (quiet_later j c (class_of j c) place rests) agree is
    (said j c (class_of j c) place (Cell table pins) is ((quiet_tested j c (class_of j c) place).1 rests))
calm_of j fits c place (Register latching) within agree rests same is =
    let s = step_of j place in
    let later = quiet_later j c (class_of j c) place rests in
    let clock = (and_parts (not (s == 1) && nets_keep j c (s - 1) (net_pins latching.pins))
    (is_clocked j.levels (has_uncertain_clock j c s latching) (had_uncertain_clock j c s latching)
    (is_unknown (c (before j place))))
    (said j c (class_of j c) place (Register latching) is ((quiet_tested j c (class_of j c) place).1 rests))).1 in
    both_tests (not (s == 0))
    (is_clocked j.levels (has_uncertain_clock j c s latching) (has_uncertain_clock j c s latching)
    (is_unknown (c place))) (ap not later)
    (clocked_on j.levels (has_uncertain_clock j c s latching) (had_uncertain_clock j c s latching)
    (is_unknown (c (before j place))) (is_unknown (c place)) (had_one j c s latching) (ap is_unknown same) clock)

pub calm_law : CalmLaw
calm_law j c place fits within agree rests agrees =
    calm_of j fits c place (driver_of j place) within agree rests
    (keeps_law j c place fits within agree rests agrees).value refl

-- The rule of a cell's place that is local or carried gives x for no assignment.
bit_known : (v : Value) (bit : Bool) → is_bit v bit ≡ true → not (is_unknown v) ≡ true
bit_known Zero bit is = refl
bit_known One bit is = refl
bit_known X bit is = cc
bit_known Z bit is = cc

local_calm : (j : Job) (c : ℕ → Value) (place : ℕ) (bit : Bool)
    → for_every j c place (λ bits. is_bit (rule j c bits place) bit) ≡ true → is_never_unknown j c place ≡ true
local_calm j c place bit local = passes_every j c place (λ bits. not (is_unknown (rule j c bits place)))
    (λ bits. bit_known (rule j c (assigned c bits) place) bit
    (every_passes j c place (λ b. is_bit (rule j c b place) bit)
    (λ f g agree. ap (λ v. is_bit v bit) (rule_reads j c f g place agree)) local bits))

calm_by : (j : Job) (c : ℕ → Value) (place : ℕ) (table : Table) (pins : List Pin) (class : ClassByNumber)
    → driver_of j place ≡ Cell table pins → IsCarriedOrLocal class → ClassSays j c (class_of j c) place class
    → is_never_unknown j c place ≡ true
calm_by j c place table pins (Local bit) driver kind says = local_calm j c place bit says
calm_by j c place table pins Free driver kind says = absurd kind
calm_by j c place table pins (Carried from inverted) driver kind says = copy_known j c place from inverted says
    (λ passes. (and_parts (not (step_of j place == 0) && nets_keep j c (step_of j place) (net_pins pins))
    (is_never_unknown j c place)
    (sym (ap (passes_on_of j c (class_of j c) place (step_of j place) (net_of j place)) driver) ∙ passes)).1)
calm_by j c place table pins Line driver kind says = absurd kind

pub cell_law : CellLaw
cell_law j c place table pins fits within driver kind =
    ap (is_calm_of j c place (step_of j place)) driver
    ∙ calm_by j c place table pins (class_of j c place) driver kind
    (subst (ClassSays j c (class_of j c) place) (sym (class_is j fits c place within))
    (class_says j c (class_of j c) place))
