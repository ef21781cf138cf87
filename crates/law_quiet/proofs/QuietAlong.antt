-- A quiet place stays quiet over other certain values that agree up to its step, and other classes by which the nets
-- that keep still do.
use Rattle.std.proofs.Common.{◌≡◌, ℕ, zero, suc, ◌+◌, ◌-◌, ◌*◌, ◌%◌, ◌<◌, ◌≤◌, ◌==◌, ◌&&◌, not, Bool, true, false}
use Rattle.std.proofs.Common.{List, [], ◌∷◌, refl, sym, ap, ◌∙◌, arith, subst}
use Rattle.std.specs.List.{AllByRecursion, list_all}
use Rattle.std.proofs.lemmas.Bool.{and_parts}
use Rattle.design_cell.specs.declared.value.Value.{Value}
use Rattle.design_cell.specs.Value.{is_unknown}
use Rattle.design_circuit.specs.declared.design.Driver.{Driver}
use Rattle.design_circuit.specs.declared.design.Driver.TheVariants.{Input, Undriven, Constant, Copy, Cell, Register}
use Rattle.design_circuit.specs.Fits.{Fits, FitsDriver, StandsBefore}
use Rattle.design_circuit.specs.Job.{Job, at, net_of, places_of, step_of}
use Rattle.design_circuit.specs.Order.{arguments_of_driver, net_pins, position_of}
use Rattle.design_circuit.specs.Register.{had_uncertain_clock, has_uncertain_clock}
use Rattle.design_circuit.specs.declared.stim.Levels.{Levels}
use Rattle.design_circuit.proofs.LevelRule.{had_same}
use Rattle.design_circuit.specs.Rule.{old_places, places_at}
use Rattle.design_circuit.proofs.Numbers.{number_of_place_at}
use Rattle.design_circuit.proofs.Rules.{AgreeBelow, agree_on, clock_reads, new_below, old_below, position_in, spot}
use Rattle.law_model.specs.Class.{before, class_of, is_never_unknown, keeps}
use Rattle.law_model.specs.declared.class.ClassByNumber.{ClassByNumber}
use Rattle.law_model.proofs.ClassesBefore.{class_local, never_unknown_same}
use Rattle.law_quiet.specs.Due.{is_clocked, is_quiet, is_quiet_of}
use Rattle.law_quiet.proofs.KeptValues.{Earlier, earlier_here}
use Rattle.law_quiet.proofs.QuietTests.{both_tests}

-- A net that keeps at a step still does.
abbrev pub StillKeeps : Job → (ℕ → Value) → (ℕ → Value) → (ℕ → ClassByNumber) → (ℕ → ClassByNumber) → ℕ → ℕ → Type 0
StillKeeps j c d e g step net = keeps j c e step net ≡ true → keeps j d g step net ≡ true

all_still : (j : Job) (c d : ℕ → Value) (e g : ℕ → ClassByNumber) (step : ℕ) (nets : List ℕ)
    → AllByRecursion (StillKeeps j c d e g step) nets → list_all (keeps j c e step) nets ≡ true
    → list_all (keeps j d g step) nets ≡ true
all_still j c d e g step [] still all = refl
all_still j c d e g step (net ∷ nets) still all =
    let parts = and_parts (keeps j c e step net) (list_all (keeps j c e step) nets) all in
    both_tests (keeps j d g step net) (list_all (keeps j d g step) nets) (still.0 parts.0)
    (all_still j c d e g step nets still.1 parts.1)

-- All nets do, at the step before a place's.
abbrev pub BackKeep : Job → (ℕ → Value) → (ℕ → Value) → (ℕ → ClassByNumber) → (ℕ → ClassByNumber) → ℕ → Type 0
BackKeep j c d e g step = (net : ℕ) → net < j.width → StillKeeps j c d e g (step - 1) net

back_still : (j : Job) (c d : ℕ → Value) (e g : ℕ → ClassByNumber) (step : ℕ) (nets : List ℕ) → BackKeep j c d e g step
    → AllByRecursion (λ net. net < j.width) nets → AllByRecursion (StillKeeps j c d e g (step - 1)) nets
back_still j c d e g step [] back low = tt
back_still j c d e g step (net ∷ nets) back low = (back net low.0, back_still j c d e g step nets back low.1)

-- The place of a net before stands before the step.
row_before : (w step position : ℕ) → (step == 0) ≡ false → position < w → (step - 1) * w + position < step * w
row_before w zero position later low = cc
row_before w (suc t) position later low = let e : suc t - 1 ≡ t = omega arith in rw e (omega (arith, low))

pub back_in_row : (j : Job) → Fits j → (place : ℕ) → place < places_of j → (step_of j place == 0) ≡ false
    → before j place < step_of j place * j.width
back_in_row j fits place within later =
    row_before j.width (step_of j place) (position_of j.order (net_of j place)) later
    (position_in j fits (net_of j place) (spot j fits place within).net)

own_clock : (levels : Levels) (a b p q u v : Bool) → a ≡ b → p ≡ q → u ≡ v → is_clocked levels a p u ≡ true
    → is_clocked levels b q v ≡ true
own_clock levels a b p q u v ab pq uv is = rw (← ab, ← pq, ← uv) is

after_one : (step : ℕ) → (step == 0) ≡ false → not (step == 1) ≡ true → 1 < step
after_one zero later more = cc
after_one (suc zero) later more = cc
after_one (suc (suc step)) later more = omega arith

row_end : (w step : ℕ) → step * w + 0 ≡ step * w
row_end w step = omega arith

quiet_along_of : (j : Job) → Fits j → (c d : ℕ → Value) (e g : ℕ → ClassByNumber) (place : ℕ) (driver : Driver)
    → place < places_of j → (step_of j place == 0) ≡ false → AgreeBelow c d (step_of j place * j.width)
    → FitsDriver j.udps j.width driver
    → AllByRecursion (StillKeeps j c d e g (step_of j place)) (arguments_of_driver driver)
    → BackKeep j c d e g (step_of j place)
    → is_quiet_of j c e place (step_of j place) (net_of j place) driver ≡ true
    → is_quiet_of j d g place (step_of j place) (net_of j place) driver ≡ true
quiet_along_of j fits c d e g place Input within later agree driver still back quiet = quiet
quiet_along_of j fits c d e g place Undriven within later agree driver still back quiet = quiet
quiet_along_of j fits c d e g place (Constant bit) within later agree driver still back quiet = refl
quiet_along_of j fits c d e g place (Copy argument) within later agree driver still back quiet =
    still.0 quiet
quiet_along_of j fits c d e g place (Cell table pins) within later agree driver still back quiet =
    let step = step_of j place in
    let parts = and_parts (list_all (keeps j c e step) (net_pins pins)) (is_never_unknown j c (before j place)) quiet in
    let low = back_in_row j fits place within later in
    let stands : before j place < places_of j = (let whole = (spot j fits place within).whole in
    omega (arith, low, whole)) in
    both_tests (list_all (keeps j d g step) (net_pins pins)) (is_never_unknown j d (before j place))
    (all_still j c d e g step (net_pins pins) still parts.0)
    (sym (never_unknown_same j fits c d (before j place) stands (λ k less. agree k (omega (arith, low, less))))
    ∙ parts.1)
quiet_along_of j fits c d e g place (Register latching) within later agree driver still back quiet =
    let step = step_of j place in
    let parts = and_parts (not (step == 1) && list_all (keeps j c e (step - 1)) (net_pins latching.pins))
    (is_clocked j.levels (has_uncertain_clock j c step latching) (had_uncertain_clock j c step latching)
    (is_unknown (c (before j place)))) quiet in
    let first = and_parts (not (step == 1)) (list_all (keeps j c e (step - 1)) (net_pins latching.pins)) parts.0 in
    let row : AgreeBelow c d (step * j.width + 0) = subst (AgreeBelow c d) (sym (row_end j.width step)) agree in
    let clock : has_uncertain_clock j c step latching ≡ has_uncertain_clock j d step latching =
    clock_reads j c d step latching
    (agree_on c d (step * j.width + 0) (old_places j step latching.pins) row
    (old_below j fits step 0 latching driver later))
    (agree_on c d (step * j.width + 0) (places_at j (step - 1) latching.pins) row
    (new_below j fits step 0 latching driver later)) in
    both_tests (not (step == 1) && list_all (keeps j d g (step - 1)) (net_pins latching.pins))
    (is_clocked j.levels (has_uncertain_clock j d step latching) (had_uncertain_clock j d step latching)
    (is_unknown (d (before j place))))
    (both_tests (not (step == 1)) (list_all (keeps j d g (step - 1)) (net_pins latching.pins)) first.0
    (all_still j c d e g (step - 1) (net_pins latching.pins)
    (back_still j c d e g step (net_pins latching.pins) back driver.nets) first.1))
    (own_clock j.levels (has_uncertain_clock j c step latching) (has_uncertain_clock j d step latching)
    (had_uncertain_clock j c step latching) (had_uncertain_clock j d step latching) (is_unknown (c (before j place)))
    (is_unknown (d (before j place))) clock
    (had_same j fits c d step 0 latching driver (after_one step later first.0) row)
    (ap is_unknown (agree (before j place) (back_in_row j fits place within later))) parts.1)

not_true : (b : Bool) → not b ≡ true → b ≡ false
not_true false h = refl
not_true true h = cc

pub quiet_along : (j : Job) → Fits j → (c d : ℕ → Value) (e g : ℕ → ClassByNumber) (place : ℕ) → place < places_of j
    → AgreeBelow c d (step_of j place * j.width)
    → AllByRecursion (StillKeeps j c d e g (step_of j place)) (arguments_of_driver (j.driver (net_of j place)))
    → BackKeep j c d e g (step_of j place) → is_quiet j c e place ≡ true → is_quiet j d g place ≡ true
quiet_along j fits c d e g place within agree still back quiet =
    let s = spot j fits place within in
    let parts = and_parts (not (step_of j place == 0))
    (is_quiet_of j c e place (step_of j place) (net_of j place) (j.driver (net_of j place))) quiet in
    both_tests (not (step_of j place == 0))
    (is_quiet_of j d g place (step_of j place) (net_of j place) (j.driver (net_of j place))) parts.0
    (quiet_along_of j fits c d e g place (j.driver (net_of j place)) within (not_true (step_of j place == 0) parts.0)
    agree
    s.driver still back parts.1)

-- Where certain values agree before a place, the nets that keep there still do.
row_back : (w step position : ℕ) → (step - 1) * w + position ≤ step * w + position
row_back w zero position = omega arith
row_back w (suc t) position = let e : suc t - 1 ≡ t = omega arith in rw e (omega arith)

pub back_up : (j : Job) → Fits j → (place : ℕ) → place < places_of j → before j place ≤ place
back_up j fits place within =
    let itself : at j (step_of j place) (net_of j place) ≡ place =
    number_of_place_at j place fits.ordering fits.all within in
    let back = row_back j.width (step_of j place) (position_of j.order (net_of j place)) in
    omega (arith, itself, back)

same_keeps : (j : Job) (c d : ℕ → Value) (e g : ℕ → ClassByNumber) (step net : ℕ)
    → c (at j step net) ≡ d (at j step net)
    → c (at j (step - 1) net) ≡ d (at j (step - 1) net) → e (at j step net) ≡ g (at j step net)
    → keeps j c e step net ≡ keeps j d g step net
same_keeps j c d e g step net here back class = rw (here, back, class) refl

pub keeps_local : (j : Job) → Fits j → (c d : ℕ → Value) (first step net : ℕ) → first ≤ places_of j
    → AgreeBelow c d first
    → at j step net < first → keeps j c (class_of j c) step net ≡ keeps j d (class_of j d) step net
keeps_local j fits c d first step net within agree less =
    let back = row_back j.width step (position_of j.order net) in
    same_keeps j c d (class_of j c) (class_of j d) step net (agree (at j step net) less)
    (agree (at j (step - 1) net) (omega (arith, back, less)))
    (class_local j fits c d (at j step net) (omega (arith, less)) (λ k low. agree k (omega (arith, low, less))))

-- The nets that a place's driver reads in its step stand before it, and all nets a step before do.
pub reads_still : (j : Job) → Fits j → (c d : ℕ → Value) (e g : ℕ → ClassByNumber) (place : ℕ) → place < places_of j
    → ((net : ℕ) → net < j.width → at j (step_of j place) net < place → StillKeeps j c d e g (step_of j place) net)
    → AllByRecursion (StillKeeps j c d e g (step_of j place)) (arguments_of_driver (j.driver (net_of j place)))
reads_still j fits c d e g place within still =
    let s = spot j fits place within in
    each (arguments_of_driver (j.driver (net_of j place))) s.before (earlier_here j fits place _ within s.before)
  where
    each : (nets : List ℕ) → AllByRecursion (StandsBefore j (place % j.width)) nets
        → Earlier j place (step_of j place) nets
        → AllByRecursion (StillKeeps j c d e g (step_of j place)) nets
    each [] stands less = tt
    each (net ∷ nets) stands less = (still net stands.0.within less.0, each nets stands.1 less.1)

pub back_low : (j : Job) → Fits j → (place net : ℕ) → place < places_of j → (step_of j place == 0) ≡ false
    → net < j.width
    → at j (step_of j place - 1) net < step_of j place * j.width
back_low j fits place net within later low =
    row_before j.width (step_of j place) (position_of j.order net) later (position_in j fits net low)

-- So a quiet place is quiet over them too.
pub quiet_local : (j : Job) → Fits j → (c d : ℕ → Value) (place : ℕ) → place < places_of j → AgreeBelow c d place
    → is_quiet j c (class_of j c) place ≡ true → is_quiet j d (class_of j d) place ≡ true
quiet_local j fits c d place within agree quiet =
    let whole = (spot j fits place within).whole in
    let later = not_true (step_of j place == 0) (and_parts (not (step_of j place == 0))
    (is_quiet_of j c (class_of j c) place (step_of j place) (net_of j place) (j.driver (net_of j place))) quiet).0 in
    quiet_along j fits c d (class_of j c) (class_of j d) place within
    (λ k less. agree k (omega (arith, whole, less)))
    (reads_still j fits c d (class_of j c) (class_of j d) place within
    (λ net low less keep. sym (keeps_local j fits c d place (step_of j place) net (omega arith) agree less) ∙ keep))
    (λ net low keep. (let less = back_low j fits place net within later low in
    sym (keeps_local j fits c d place (step_of j place - 1) net (omega arith) agree (omega (arith, less, whole)))
    ∙ keep))
    quiet
