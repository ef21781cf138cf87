-- The test of a quiet place.
use Rattle.std.proofs.Common.{◌≡◌, ℕ, zero, suc, ◌-◌, ◌==◌, ◌&&◌, ◌||◌, not, Bool, true, false, List, [], ◌∷◌, refl}
use Rattle.std.proofs.Common.{sym, ap, ◌∙◌, arith, Contains}
use Rattle.std.specs.List.{list_all}
use Rattle.std.proofs.lemmas.Bool.{and_parts, eqb-true, eq-eqb, ne_eqb}
use Rattle.design_cell.specs.declared.value.Value.{Value}
use Rattle.design_cell.specs.Value.{is_unknown}
use Rattle.design_circuit.specs.declared.design.Driver.{Driver}
use Rattle.design_circuit.specs.declared.design.Driver.TheVariants.{Input, Undriven, Constant, Copy, Cell, Register}
use Rattle.design_circuit.specs.declared.stim.Levels.{Levels}
use Rattle.design_circuit.specs.declared.stim.Levels.TheVariants.{Change, Hold}
use Rattle.design_circuit.specs.Job.{Job, net_of, step_of}
use Rattle.design_circuit.specs.Order.{net_pins}
use Rattle.design_circuit.specs.Register.{also_before, had_uncertain_clock, has_uncertain_clock}
use Rattle.design_circuit.specs.declared.design.Latching.{Latching}
use Rattle.law_model.specs.Class.{before, is_never_unknown, keeps}
use Rattle.law_model.specs.declared.class.ClassByNumber.{ClassByNumber}
use Rattle.law_quiet.specs.Due.{IsDue, IsQuiet, IsStirred, driver_of, is_clocked, is_first_round, is_quiet, is_quiet_of}
use Rattle.law_quiet.specs.Due.{is_recorded_same}
use Rattle.law_quiet.specs.Laws.{TestLaw}
use Rattle.law_model.proofs.Classes.{in_front, behind}

no_test : (b : Bool) → (b ≡ false → ⊥) → b ≡ true
no_test true none = refl
no_test false none = absurd (none refl)

no_other : (b : Bool) → (b ≡ true → ⊥) → not b ≡ true
no_other false none = refl
no_other true none = absurd (none refl)

pub both_tests : (a b : Bool) → a ≡ true → b ≡ true → a && b ≡ true
both_tests a b a_is b_is = rw (a_is, b_is) refl

one_of : (a b : Bool) → (a ≡ false → b ≡ false → ⊥) → a || b ≡ true
one_of true b none = refl
one_of false true none = refl
one_of false false none = absurd (none refl refl)

turned : (b : Bool) → not b ≡ false → b ≡ true
turned true h = refl
turned false h = cc

-- A test passes for all numbers where it fails for none.
pub all_pass : (test : ℕ → Bool) (nets : List ℕ) → ((net : ℕ) → Contains nets net → test net ≡ false → ⊥)
    → list_all test nets ≡ true
all_pass test [] none = refl
all_pass test (net ∷ nets) none = both_tests (test net) (list_all test nets)
    (no_test (test net) (none net (in_front net nets)))
    (all_pass test nets (λ k at. none k (behind net k nets at)))

pub one_passes : (test : ℕ → Bool) (nets : List ℕ) (net : ℕ) → list_all test nets ≡ true → Contains nets net
    → test net ≡ true
one_passes test [] net all at = absurd (omega arith)
one_passes test (first ∷ nets) net all (zero, less, is) =
    ap test (sym is) ∙ (and_parts (test first) (list_all test nets) all).0
one_passes test (first ∷ nets) net all (suc k, less, is) =
    one_passes test nets net (and_parts (test first) (list_all test nets) all).1 (k, omega arith, is)

differ : (b : Bool) → b ≡ true → b ≡ false → ⊥
differ true is isnt = cc
differ false is isnt = cc

clocked_test : (levels : Levels) (uncertain had unknown : Bool) → (uncertain ≡ true → unknown ≡ true → ⊥)
    → (levels ≡ Hold → had ≡ true → ⊥) → is_clocked levels uncertain had unknown ≡ true
clocked_test Change uncertain had unknown free held =
    one_of (not uncertain) (not unknown) (λ a b. free (turned uncertain a) (turned unknown b))
clocked_test Hold uncertain had unknown free held = no_other had (held refl)

not_test : (b : Bool) → b ≡ true → not b ≡ true → ⊥
not_test true is isnt = cc
not_test false is isnt = cc

neither : (a b : Bool) → a || b ≡ true → (a ≡ true → ⊥) → b ≡ false → ⊥
neither true b either none other = none refl
neither false b either none other = cc

pub unclocked_test : (levels : Levels) (uncertain had unknown : Bool) → (uncertain ≡ true → had ≡ true)
    → is_clocked levels uncertain had unknown ≡ true → uncertain ≡ true → unknown ≡ true → ⊥
unclocked_test Change uncertain had unknown more test clock own =
    neither (not uncertain) (not unknown) test (not_test uncertain clock) (ap not own)
unclocked_test Hold uncertain had unknown more test clock own = not_test had (more clock) test

pub held_test : (levels : Levels) (uncertain had unknown : Bool) → is_clocked levels uncertain had unknown ≡ true
    → levels ≡ Hold → had ≡ true → ⊥
held_test Change uncertain had unknown test holds clock = cc
held_test Hold uncertain had unknown test holds clock = not_test had clock test

-- Where its clock is uncertain it had an uncertain one.
pub had_one : (j : Job) (c : ℕ → Value) (step : ℕ) (latching : Latching) → has_uncertain_clock j c step latching ≡ true
    → had_uncertain_clock j c step latching ≡ true
had_one j c step latching here =
    ap (λ b. b || also_before j.levels (has_uncertain_clock j c (step - 1) latching)) here

quiet_by : (j : Job) (c : ℕ → Value) (class : ℕ → ClassByNumber) (place : ℕ) (driver : Driver)
    → driver_of j place ≡ driver
    → IsQuiet j c class place → is_quiet_of j c class place (step_of j place) (net_of j place) driver ≡ true
quiet_by j c class place Input is quiet =
    one_of (not (is_first_round j (step_of j place))) (is_recorded_same j (step_of j place) (net_of j place))
    (λ first same. quiet (IsDue.stirred (IsStirred.recorded is (turned (is_first_round j (step_of j place)) first)
    same)))
quiet_by j c class place Undriven is quiet =
    no_other (is_first_round j (step_of j place)) (λ first. quiet (IsDue.stirred (IsStirred.undriven is first)))
quiet_by j c class place (Constant bit) is quiet = refl
quiet_by j c class place (Copy argument) is quiet =
    no_test (keeps j c class (step_of j place) argument)
    (λ moves. quiet (IsDue.stirred (IsStirred.copied argument is moves)))
quiet_by j c class place (Cell table pins) is quiet =
    both_tests (list_all (keeps j c class (step_of j place)) (net_pins pins)) (is_never_unknown j c (before j place))
    (all_pass (keeps j c class (step_of j place)) (net_pins pins)
    (λ net at moves. quiet (IsDue.stirred (IsStirred.pin table pins net is at moves))))
    (no_test (is_never_unknown j c (before j place)) (λ x. quiet (IsDue.restless table pins is x)))
quiet_by j c class place (Register latching) is quiet =
    both_tests (not (step_of j place == 1) && list_all (keeps j c class (step_of j place - 1)) (net_pins latching.pins))
    (is_clocked j.levels (has_uncertain_clock j c (step_of j place) latching)
    (had_uncertain_clock j c (step_of j place) latching) (is_unknown (c (before j place))))
    (both_tests (not (step_of j place == 1)) (list_all (keeps j c class (step_of j place - 1)) (net_pins latching.pins))
    (no_other (step_of j place == 1) (λ one. quiet (IsDue.second latching is (eqb-true (step_of j place) 1 one))))
    (all_pass (keeps j c class (step_of j place - 1)) (net_pins latching.pins)
    (λ net at moves. quiet (IsDue.stirred (IsStirred.looked latching net is at moves)))))
    (clocked_test j.levels (has_uncertain_clock j c (step_of j place) latching)
    (had_uncertain_clock j c (step_of j place) latching) (is_unknown (c (before j place)))
    (λ clock own. quiet (IsDue.unclocked latching is clock own))
    (λ holds clock. quiet (IsDue.held latching is holds clock)))

test_quiet : (j : Job) (c : ℕ → Value) (class : ℕ → ClassByNumber) (place : ℕ) → IsQuiet j c class place
    → is_quiet j c class place ≡ true
test_quiet j c class place quiet =
    both_tests (not (step_of j place == 0))
    (is_quiet_of j c class place (step_of j place) (net_of j place) (driver_of j place))
    (no_other (step_of j place == 0) (λ none. quiet (IsDue.first (eqb-true (step_of j place) 0 none))))
    (quiet_by j c class place (driver_of j place) refl quiet)

-- What the test says of each driver.
pub said : (j : Job) (c : ℕ → Value) (class : ℕ → ClassByNumber) (place : ℕ) (driver : Driver)
    → driver_of j place ≡ driver
    → is_quiet j c class place ≡ true → is_quiet_of j c class place (step_of j place) (net_of j place) driver ≡ true
said j c class place driver is test =
    ap (is_quiet_of j c class place (step_of j place) (net_of j place)) (sym is)
    ∙ (and_parts (not (step_of j place == 0))
    (is_quiet_of j c class place (step_of j place) (net_of j place) (driver_of j place)) test).1

-- Where it passes nothing is stirred, and the place isn't due.
stirred_test : (j : Job) (c : ℕ → Value) (class : ℕ → ClassByNumber) (place : ℕ) → is_quiet j c class place ≡ true
    → IsStirred j c class place → ⊥
stirred_test j c class place test (IsStirred.recorded is first other) =
    neither (not (is_first_round j (step_of j place))) (is_recorded_same j (step_of j place) (net_of j place))
    (said j c class place Input is test) (not_test (is_first_round j (step_of j place)) first) other
stirred_test j c class place test (IsStirred.undriven is first) =
    not_test (is_first_round j (step_of j place)) first (said j c class place Undriven is test)
stirred_test j c class place test (IsStirred.copied net is moves) =
    differ (keeps j c class (step_of j place) net) (said j c class place (Copy net) is test) moves
stirred_test j c class place test (IsStirred.pin table pins net is at moves) =
    differ (keeps j c class (step_of j place) net)
    (one_passes (keeps j c class (step_of j place)) (net_pins pins) net
    (and_parts (list_all (keeps j c class (step_of j place)) (net_pins pins)) (is_never_unknown j c (before j place))
    (said j c class place (Cell table pins) is test)).0 at) moves
stirred_test j c class place test (IsStirred.looked latching net is at moves) =
    let s = step_of j place in
    let parts = and_parts (not (s == 1) && list_all (keeps j c class (s - 1)) (net_pins latching.pins))
    (is_clocked j.levels (has_uncertain_clock j c s latching) (had_uncertain_clock j c s latching)
    (is_unknown (c (before j place)))) (said j c class place (Register latching) is test) in
    differ (keeps j c class (s - 1) net)
    (one_passes (keeps j c class (s - 1)) (net_pins latching.pins) net
    (and_parts (not (s == 1)) (list_all (keeps j c class (s - 1)) (net_pins latching.pins)) parts.0).1 at) moves

quiet_test : (j : Job) (c : ℕ → Value) (class : ℕ → ClassByNumber) (place : ℕ) → is_quiet j c class place ≡ true
    → IsDue j c class place → ⊥
quiet_test j c class place test (IsDue.first none) =
    not_test (step_of j place == 0) (eq-eqb (step_of j place) 0 none) (and_parts (not (step_of j place == 0))
    (is_quiet_of j c class place (step_of j place) (net_of j place) (driver_of j place)) test).0
quiet_test j c class place test (IsDue.second latching is one) =
    let s = step_of j place in
    let parts = and_parts (not (s == 1) && list_all (keeps j c class (s - 1)) (net_pins latching.pins))
    (is_clocked j.levels (has_uncertain_clock j c s latching) (had_uncertain_clock j c s latching)
    (is_unknown (c (before j place)))) (said j c class place (Register latching) is test) in
    not_test (s == 1) (eq-eqb s 1 one)
    (and_parts (not (s == 1)) (list_all (keeps j c class (s - 1)) (net_pins latching.pins)) parts.0).0
quiet_test j c class place test (IsDue.restless table pins is x) =
    differ (is_never_unknown j c (before j place))
    (and_parts (list_all (keeps j c class (step_of j place)) (net_pins pins)) (is_never_unknown j c (before j place))
    (said j c class place (Cell table pins) is test)).1 x
quiet_test j c class place test (IsDue.unclocked latching is clock own) =
    let s = step_of j place in
    let parts = and_parts (not (s == 1) && list_all (keeps j c class (s - 1)) (net_pins latching.pins))
    (is_clocked j.levels (has_uncertain_clock j c s latching) (had_uncertain_clock j c s latching)
    (is_unknown (c (before j place)))) (said j c class place (Register latching) is test) in
    unclocked_test j.levels (has_uncertain_clock j c s latching) (had_uncertain_clock j c s latching)
    (is_unknown (c (before j place))) (had_one j c s latching) parts.1 clock own
quiet_test j c class place test (IsDue.held latching is holds clock) =
    let s = step_of j place in
    let parts = and_parts (not (s == 1) && list_all (keeps j c class (s - 1)) (net_pins latching.pins))
    (is_clocked j.levels (has_uncertain_clock j c s latching) (had_uncertain_clock j c s latching)
    (is_unknown (c (before j place)))) (said j c class place (Register latching) is test) in
    held_test j.levels (has_uncertain_clock j c s latching) (had_uncertain_clock j c s latching)
    (is_unknown (c (before j place))) parts.1 holds clock
quiet_test j c class place test (IsDue.stirred by) = stirred_test j c class place test by

pub quiet_tested : TestLaw
quiet_tested j c class place = (quiet_test j c class place, test_quiet j c class place)

-- A quiet place isn't in the first step.
pub quiet_later : (j : Job) (c : ℕ → Value) (class : ℕ → ClassByNumber) (place : ℕ) → IsQuiet j c class place
    → (step_of j place == 0) ≡ false
quiet_later j c class place quiet = ne_eqb (step_of j place) 0 (λ none. quiet (IsDue.first none))
