-- The class of a quiet place says that it has what its net's place a step before has.
use Rattle.std.proofs.Common.{◌≡◌, ℕ, zero, suc, ◌+◌, ◌-◌, ◌*◌, ◌/◌, ◌%◌, ◌<◌, ◌==◌, ◌&&◌, ◌||◌, not, Bool, true, false}
use Rattle.std.proofs.Common.{List, [], ◌∷◌, refl, sym, ap, ◌∙◌, arith, subst, if◌then◌else◌}
use Rattle.std.specs.List.{AllByRecursion}
use Rattle.std.proofs.lemmas.Bool.{and_parts, eq-eqb}
use Rattle.std.proofs.lemmas.Nat.{div-mul-add}
use Rattle.design_cell.specs.declared.value.Value.{Value}
use Rattle.design_cell.specs.declared.value.Value.TheVariants.{Zero, One, X, Z}
use Rattle.design_cell.specs.Value.{bit_value, is_unknown}
use Rattle.design_circuit.specs.declared.design.Driver.{Driver}
use Rattle.design_circuit.specs.declared.design.Driver.TheVariants.{Input, Undriven, Constant, Copy, Cell, Register}
use Rattle.design_circuit.specs.declared.design.Pin.{Pin}
use Rattle.design_circuit.specs.declared.design.Table.{Table}
use Rattle.design_circuit.specs.Fits.{Fits, StandsBefore}
use Rattle.design_circuit.specs.Job.{Job, at, net_of, places_of, step_of}
use Rattle.design_circuit.specs.Order.{arguments_of_driver, net_pins}
use Rattle.design_circuit.specs.Replay.{table_of}
use Rattle.design_circuit.specs.Rule.{known_or, rule}
use Rattle.design_circuit.specs.World.{decided}
use Rattle.design_circuit.proofs.Rules.{spot}
use Rattle.law_model.specs.Assignment.{assigned}
use Rattle.law_model.specs.Class.{are_equal, before, class_of, is_carried_on, is_never_unknown, keeps, passes_on}
use Rattle.law_model.specs.Class.{passes_on_of}
use Rattle.law_model.specs.declared.class.ClassByNumber.{ClassByNumber}
use Rattle.law_model.specs.declared.class.ClassByNumber.TheVariants.{Local, Free, Carried, Line}
use Rattle.wave_class.specs.Facts.{AgreeBefore, AgreesWith}
use Rattle.wave_class.specs.Keeps.{nets_keep}
use Rattle.wave_class.proofs.MovedRules.{RulesMove, as_it_is, kept_value, kinds_moved, pins_moved, same_value}
use Rattle.design_circuit.proofs.Numbers.{number_of_place_at}
use Rattle.law_quiet.specs.Due.{is_first_round, is_quiet, is_quiet_of, is_recorded_same}
use Rattle.law_quiet.specs.Laws.{KeepsLaw, QuietLaw, SaysTheSame}
use Rattle.law_quiet.proofs.KeptValues.{earlier_here, kept_values}
use Rattle.law_quiet.proofs.Findings.{Finding, GivesOwn, found_same, gives_local, moved_local, never_free, no_passing}
use Rattle.law_quiet.proofs.Findings.{own_free, own_local, rule_before, rule_here, bits_known, free_gives}
use Rattle.law_quiet.proofs.RegisterFindings.{register_finding}
use Rattle.law_quiet.proofs.QuietTests.{quiet_tested}

passes_at : (j : Job) (c : ℕ → Value) (place : ℕ) (driver : Driver) → j.driver (net_of j place) ≡ driver
    → passes_on_of j c (class_of j c) place (step_of j place) (net_of j place) driver ≡ true
    → passes_on j c (class_of j c) place ≡ true
passes_at j c place driver is passes =
    ap (passes_on_of j c (class_of j c) place (step_of j place) (net_of j place)) is ∙ passes

behind_is : (step : ℕ) → (step == 0) ≡ false → step ≡ suc (step - 1)
behind_is zero later = cc
behind_is (suc step) later = omega arith

-- A place that gives one bit for all bits, as does its net's place before.
constant_finding : (j : Job) → Fits j → (c : ℕ → Value) (place : ℕ) (bit : Bool) → place < places_of j
    → (step_of j place == 0) ≡ false → AgreeBefore j c place
    → ((bits : ℕ → Bool) → rule j c bits place ≡ bit_value bit)
    → ((bits : ℕ → Bool) → rule j c bits (before j place) ≡ bit_value bit) → Finding j c place
constant_finding j fits c place bit within later agree here there = record {
  local = moved_local j fits c place within later agree
      (λ early late moved. here (assigned c late) ∙ sym (there (assigned c early)));
  free = λ free. bits_known bit (ap is_unknown (sym (here (assigned c (λ k. false))))
      ∙ free_gives j c place (λ k. false) free);
  passes = no_passing j c place bit (gives_local j c place bit (λ bits. here (assigned c bits)));
}

-- At a later round of a moment a place of what is born unknown gives its net's bit.
later_born : (first : Bool) (bit : Bool) → not first ≡ true → (if first then X else bit_value bit) ≡ bit_value bit
later_born true bit h = cc
later_born false bit h = refl

-- The moment is that of the step before.
not_zero : (m : ℕ) → not (m == 0) ≡ true → 0 < m
not_zero zero h = cc
not_zero (suc m) h = omega arith

same_moment : (s r : ℕ) → 0 < r → not (s % r == 0) ≡ true → (s - 1) / r ≡ s / r
same_moment s r some later =
    let more : 0 < s % r = not_zero (s % r) later in
    let e : s - 1 ≡ (s / r) * r + (s % r - 1) = omega arith in
    ap (λ k. k / r) e ∙ div-mul-add (s / r) r (s % r - 1) (omega arith)

-- An input that is recorded known.
either_same : (first same : Bool) (u v : Value) → not first || same ≡ true → (not first ≡ true → v ≡ u)
    → (same ≡ true → u ≡ v) → v ≡ u
either_same false same u v quiet round recorded = round refl
either_same true true u v quiet round recorded = sym (recorded refl)
either_same true false u v quiet round recorded = cc

recorded_before : (j : Job) → Fits j → (step net : ℕ) → not (is_first_round j step) || is_recorded_same j step net
    ≡ true
    → j.recorded ((step - 1) / j.rounds) net ≡ j.recorded (step / j.rounds) net
recorded_before j fits step net quiet =
    either_same (is_first_round j step) (is_recorded_same j step net) (j.recorded (step / j.rounds) net)
    (j.recorded ((step - 1) / j.rounds) net) quiet
    (λ later. ap (λ m. j.recorded m net) (same_moment step j.rounds fits.some_round later))
    (λ same. same_value (j.recorded (step / j.rounds) net) (j.recorded ((step - 1) / j.rounds) net) same)

known_bit : (bit : Bool) (v other : Value) → v ≡ bit_value bit → known_or v other ≡ bit_value bit
known_bit false v other is = rw is refl
known_bit true v other is = rw is refl

known_finding : (j : Job) → Fits j → (c : ℕ → Value) (place : ℕ) (bit : Bool) → place < places_of j
    → (step_of j place == 0) ≡ false → AgreeBefore j c place → j.driver (net_of j place) ≡ Input
    → not (is_first_round j (step_of j place)) || is_recorded_same j (step_of j place) (net_of j place) ≡ true
    → j.recorded (step_of j place / j.rounds) (net_of j place) ≡ bit_value bit → Finding j c place
known_finding j fits c place bit within later agree driver quiet recorded =
    constant_finding j fits c place bit within later agree
    (λ bits. rule_here j c bits place Input driver
    ∙ known_bit bit (j.recorded (step_of j place / j.rounds) (net_of j place)) _ recorded)
    (λ bits. rule_before j fits c bits place Input within driver
    ∙ known_bit bit (j.recorded ((step_of j place - 1) / j.rounds) (net_of j place)) _
    (recorded_before j fits (step_of j place) (net_of j place) quiet ∙ recorded))

-- One that isn't, at a later round.
other_known : (v other : Value) → is_unknown v ≡ true → known_or v other ≡ other
other_known Zero other unknown = cc
other_known One other unknown = cc
other_known X other unknown = refl
other_known Z other unknown = refl

unknown_same : (v w : Value) → is_unknown v ≡ true → are_equal v w ≡ false
unknown_same Zero w unknown = cc
unknown_same One w unknown = cc
unknown_same X w unknown = refl
unknown_same Z w unknown = refl

either_round : (round same : Bool) → round || same ≡ true → same ≡ false → round ≡ true
either_round true same quiet other = refl
either_round false same quiet other = cc

unknown_finding : (j : Job) (c : ℕ → Value) (place : ℕ) → j.driver (net_of j place) ≡ Input
    → not (is_first_round j (step_of j place)) || is_recorded_same j (step_of j place) (net_of j place) ≡ true
    → is_unknown (j.recorded (step_of j place / j.rounds) (net_of j place)) ≡ true → Finding j c place
unknown_finding j c place driver quiet unknown =
    let step = step_of j place in
    let net = net_of j place in
    let round : not (is_first_round j step) ≡ true =
    either_round (not (is_first_round j step)) (is_recorded_same j step net)
    quiet (unknown_same (j.recorded (step / j.rounds) net) (j.recorded ((step - 1) / j.rounds) net) unknown) in
    let gives : GivesOwn j c place = λ bit. rule_here j c (assigned c (λ k. bit)) place Input driver
    ∙ other_known (j.recorded (step / j.rounds) net) _ unknown
    ∙ later_born (is_first_round j step) (decided (c (before j place)) bit) round in
    record {
      local = own_local j c place gives;
      free = own_free j c place gives;
      passes = λ zero_is one_is. passes_at j c place Input driver (rw (round, unknown) refl);
    }

input_finding : (j : Job) → Fits j → (c : ℕ → Value) (place : ℕ) (v : Value) → place < places_of j
    → (step_of j place == 0) ≡ false → AgreeBefore j c place → j.driver (net_of j place) ≡ Input
    → not (is_first_round j (step_of j place)) || is_recorded_same j (step_of j place) (net_of j place) ≡ true
    → j.recorded (step_of j place / j.rounds) (net_of j place) ≡ v → Finding j c place
input_finding j fits c place Zero within later agree driver quiet is =
    known_finding j fits c place false within later agree driver quiet is
input_finding j fits c place One within later agree driver quiet is =
    known_finding j fits c place true within later agree driver quiet is
input_finding j fits c place X within later agree driver quiet is =
    unknown_finding j c place driver quiet (ap is_unknown is)
input_finding j fits c place Z within later agree driver quiet is =
    unknown_finding j c place driver quiet (ap is_unknown is)

undriven_finding : (j : Job) (c : ℕ → Value) (place : ℕ) → j.driver (net_of j place) ≡ Undriven
    → not (is_first_round j (step_of j place)) ≡ true → Finding j c place
undriven_finding j c place driver round =
    let gives : GivesOwn j c place = λ bit. rule_here j c (assigned c (λ k. bit)) place Undriven driver
    ∙ later_born (is_first_round j (step_of j place)) (decided (c (before j place)) bit) round in
    record {
      local = own_local j c place gives;
      free = own_free j c place gives;
      passes = λ zero_is one_is. passes_at j c place Undriven driver round;
    }

-- A copy.
copied_same : (v w : Value) (a b : Bool) → v ≡ w → a ≡ b → bit_value (decided v a) ≡ bit_value (decided w b)
copied_same v w a b vw ab = rw (vw, ab) refl

copy_finding : (j : Job) → Fits j → (c : ℕ → Value) (place argument : ℕ) → place < places_of j
    → (step_of j place == 0) ≡ false → AgreeBefore j c place → j.driver (net_of j place) ≡ Copy argument
    → keeps j c (class_of j c) (step_of j place) argument ≡ true → Finding j c place
copy_finding j fits c place argument within later agree driver kept =
    let step = step_of j place in
    let stands : AllByRecursion (StandsBefore j (place % j.width)) (argument ∷ []) =
    subst (λ (d : Driver). AllByRecursion (StandsBefore j (place % j.width)) (arguments_of_driver d)) driver
    (spot j fits place within).before in
    let value : c (at j step argument) ≡ c (at j (step - 1) argument) =
    kept_value j c place step argument agree (earlier_here j fits place (argument ∷ []) within stands).0 kept in
    let moves : RulesMove j c place (before j place) = λ early late moved.
    rule_here j c (assigned c late) place (Copy argument) driver
    ∙ copied_same (c (at j step argument)) (c (at j (step - 1) argument)) (late (at j step argument))
    (early (at j (step - 1) argument)) value (moved step (step - 1) argument (behind_is step later))
    ∙ sym (rule_before j fits c (assigned c early) place (Copy argument) within driver) in
    record {
      local = moved_local j fits c place within later agree moves;
      free = λ free. bits_known (assigned c (λ k. false) (at j step argument))
          (ap is_unknown (sym (rule_here j c (assigned c (λ k. false)) place (Copy argument) driver))
          ∙ free_gives j c place (λ k. false) free);
      passes = λ zero_is one_is. passes_at j c place (Copy argument) driver kept;
    }

cell_moves : (j : Job) → Fits j → (c : ℕ → Value) (place : ℕ) (table : Table) (pins : List Pin) → place < places_of j
    → (step_of j place == 0) ≡ false → AgreeBefore j c place → j.driver (net_of j place) ≡ Cell table pins
    → nets_keep j c (step_of j place) (net_pins pins) ≡ true → RulesMove j c place (before j place)
cell_moves j fits c place table pins within later agree driver kept = λ early late moved. (
    let step = step_of j place in
    let stands : AllByRecursion (StandsBefore j (place % j.width)) (net_pins pins) =
    subst (λ (d : Driver). AllByRecursion (StandsBefore j (place % j.width)) (arguments_of_driver d)) driver
    (spot j fits place within).before in
    let values = kept_values j c place step (net_pins pins) agree
    (earlier_here j fits place (net_pins pins) within stands)
    kept in
    rule_here j c (assigned c late) place (Cell table pins) driver
    ∙ ap (table_of j.udps table) (pins_moved j c early late step (step - 1) pins (behind_is step later) moved values)
    ∙ sym (rule_before j fits c (assigned c early) place (Cell table pins) within driver)
    )

-- The rule of a quiet cell's place never gives x, as that of the place before.
pub calm_cell : (j : Job) → Fits j → (c : ℕ → Value) (place : ℕ) (table : Table) (pins : List Pin) → place < places_of j
    → (step_of j place == 0) ≡ false → AgreeBefore j c place → j.driver (net_of j place) ≡ Cell table pins
    → is_quiet_of j c (class_of j c) place (step_of j place) (net_of j place) (Cell table pins) ≡ true
    → is_never_unknown j c place ≡ true
calm_cell j fits c place table pins within later agree driver quiet =
    let parts = and_parts (nets_keep j c (step_of j place) (net_pins pins)) (is_never_unknown j c (before j place))
    quiet in
    (kinds_moved j c place (before j place) (cell_moves j fits c place table pins within later agree driver
    parts.0)).never
    ∙ parts.1

cell_finding : (j : Job) → Fits j → (c : ℕ → Value) (place : ℕ) (table : Table) (pins : List Pin) → place < places_of j
    → (step_of j place == 0) ≡ false → AgreeBefore j c place → j.driver (net_of j place) ≡ Cell table pins
    → is_quiet_of j c (class_of j c) place (step_of j place) (net_of j place) (Cell table pins) ≡ true
    → Finding j c place
cell_finding j fits c place table pins within later agree driver quiet =
    let parts = and_parts (nets_keep j c (step_of j place) (net_pins pins)) (is_never_unknown j c (before j place))
    quiet in
    let never = calm_cell j fits c place table pins within later agree driver quiet in
    record {
      local = moved_local j fits c place within later agree
          (cell_moves j fits c place table pins within later agree driver parts.0);
      free = never_free j c place never;
      passes = λ zero_is one_is. passes_at j c place (Cell table pins) driver (rw (later, parts.0, never) refl);
    }

finding_of : (j : Job) → Fits j → (c : ℕ → Value) (place : ℕ) (driver : Driver) → place < places_of j
    → (step_of j place == 0) ≡ false → AgreeBefore j c place → j.driver (net_of j place) ≡ driver
    → is_quiet_of j c (class_of j c) place (step_of j place) (net_of j place) driver ≡ true → Finding j c place
finding_of j fits c place Input within later agree driver quiet =
    input_finding j fits c place (j.recorded (step_of j place / j.rounds) (net_of j place)) within later agree driver
    quiet refl
finding_of j fits c place Undriven within later agree driver quiet = undriven_finding j c place driver quiet
finding_of j fits c place (Constant bit) within later agree driver quiet =
    constant_finding j fits c place bit within later agree (λ bits. rule_here j c bits place (Constant bit) driver)
    (λ bits. rule_before j fits c bits place (Constant bit) within driver)
finding_of j fits c place (Copy argument) within later agree driver quiet =
    copy_finding j fits c place argument within later agree driver quiet
finding_of j fits c place (Cell table pins) within later agree driver quiet =
    cell_finding j fits c place table pins within later agree driver quiet
finding_of j fits c place (Register latching) within later agree driver quiet =
    register_finding j fits c place latching within later agree driver quiet

not_true : (b : Bool) → not b ≡ true → b ≡ false
not_true false h = refl
not_true true h = cc

pub quiet_says : (j : Job) (c : ℕ → Value) (place : ℕ) → Fits j → place < places_of j → AgreeBefore j c place
    → is_quiet j c (class_of j c) place ≡ true → SaysTheSame j c place (class_of j c place)
quiet_says j c place fits within agree quiet =
    let parts = and_parts (not (step_of j place == 0))
    (is_quiet_of j c (class_of j c) place (step_of j place) (net_of j place) (j.driver (net_of j place))) quiet in
    found_same j fits c place within
    (finding_of j fits c place (j.driver (net_of j place)) within (not_true (step_of j place == 0) parts.0) agree refl
    parts.1)

pub quiet_law : QuietLaw
quiet_law j c place fits within agree rests =
    quiet_says j c place fits within agree ((quiet_tested j c (class_of j c) place).1 rests)

-- So its net keeps.
or_right : (a b : Bool) → b ≡ true → a || b ≡ true
or_right false b is = is
or_right true b is = refl

or_left : (a b : Bool) → a ≡ true → a || b ≡ true
or_left true b is = refl
or_left false b is = cc

same_bit : (bit : Bool) → are_equal (bit_value bit) (bit_value bit) ≡ true
same_bit false = refl
same_bit true = refl

-- What a class that says the same makes of the certain values of its place and the place before.
kept_by : (j : Job) (c : ℕ → Value) (place : ℕ) (class : ClassByNumber) (v : Value) → SaysTheSame j c place class
    → AgreesWith c class v
    → (v ≡ c (before j place))
    × (are_equal v (c (before j place)) || is_carried_on class (before j place) ≡ true)
kept_by j c place (Local bit) v says agrees =
    (agrees ∙ sym says, or_left (are_equal v (c (before j place))) false (rw (agrees, says) (same_bit bit)))
kept_by j c place Free v says agrees = absurd says
kept_by j c place (Carried from inverted) v says agrees = (
  agrees ∙ (rw (says.0, says.1) (as_it_is (c (before j place)))),
  or_right (are_equal v (c (before j place))) ((from == before j place) && not inverted)
      (rw (says.0, says.1, eq-eqb (before j place) (before j place) refl) refl),
)
kept_by j c place Line v says agrees = absurd says

pub at_itself : (j : Job) → Fits j → (place : ℕ) → place < places_of j → at j (step_of j place) (net_of j place) ≡ place
at_itself j fits place within = number_of_place_at j place fits.ordering fits.all within

pub keeps_law : KeepsLaw
keeps_law j c place fits within agree rests agrees =
    let quiet = (quiet_tested j c (class_of j c) place).1 rests in
    let both = kept_by j c place (class_of j c place) (c place) (quiet_says j c place fits within agree quiet) agrees in
    let parts = and_parts (not (step_of j place == 0))
    (is_quiet_of j c (class_of j c) place (step_of j place) (net_of j place) (j.driver (net_of j place))) quiet in
    record {
      value = both.0;
      keeps = rw parts.0 (subst (λ k. are_equal (c k) (c (before j place)) || is_carried_on (class_of j c k)
          (before j place)
          ≡ true) (sym (at_itself j fits place within)) both.1);
    }
