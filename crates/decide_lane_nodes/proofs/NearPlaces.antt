-- What a place reads stands within three steps before it.
use Rattle.std.proofs.Common.{◌≡◌, ℕ, zero, suc, ◌+◌, ◌-◌, ◌*◌, ◌/◌, ◌%◌, ◌<◌, ◌≤◌, ◌==◌, Bool, true, false, List, [], ◌∷◌, ◌++◌, filter, map, cond, if◌then◌else◌, Option, None, Some, IfSome, refl, sym, ◌∙◌, subst, arith, ⊎_elim}
use Rattle.std.specs.List.{AllByRecursion}
use Rattle.std.proofs.lemmas.Bool.{and_parts, eqb-true, or_cases}
use Rattle.design_cell.specs.declared.value.Value.{Value}
use Rattle.design_cell.specs.Value.{is_unknown}
use Rattle.design_circuit.specs.declared.design.Driver.{Driver}
use Rattle.design_circuit.specs.declared.design.Driver.TheVariants.{Input, Undriven, Constant, Copy, Cell, Register}
use Rattle.design_circuit.specs.declared.design.Pin.{Pin}
use Rattle.design_circuit.specs.declared.stim.StartRule.{StartRule}
use Rattle.design_circuit.specs.declared.stim.StartRule.TheVariants.{Cold, Recorded}
use Rattle.design_circuit.specs.Fits.{Fits}
use Rattle.design_circuit.specs.Job.{Job, at, net_of, places_of, step_of}
use Rattle.design_circuit.specs.Order.{net_pins, position_of}
use Rattle.design_circuit.specs.Register.{before_start, has_uncertain_clock, two_back}
use Rattle.design_circuit.specs.Rule.{arguments, arguments_of, places_back}
use Rattle.design_circuit.proofs.Rules.{spot}
use Rattle.wave_class.specs.Arguments.{is_uncertain, uncertain_places}
use Rattle.law_model.specs.Class.{class_in, class_of, classes}
use Rattle.law_model.specs.Cone.{essentials, is_essential}
use Rattle.law_model.specs.Places.{among}
use Rattle.law_model.specs.declared.class.ClassByNumber.{ClassByNumber}
use Rattle.law_model.specs.declared.class.ClassByNumber.TheVariants.{Carried}
use Rattle.law_model.proofs.Classes.{ClassSays, all_at, class_rule, class_says}
use Rattle.law_model.proofs.PlacesWhere.{all_among, in_picked, or_left, or_right}
use Rattle.decide_graph.proofs.EssentialBits.{essentials_filter}

-- A step of some width is at most three before a place of another step.
abbrev Near : ℕ → ℕ → ℕ → Type 0
Near w step k = step * w + w ≤ k + 3 * w

near_at : (w step s p : ℕ) → step ≤ s + 2 → Near w step (s * w + p)
near_at w step s p up = (let more : step * w ≤ (s + 2) * w = scaled w step (s + 2) up in omega (arith, more))
  where
    scaled : (w a b : ℕ) → a ≤ b → a * w ≤ b * w
    scaled w zero b up = omega arith
    scaled w (suc a) zero up = absurd (omega (arith, up))
    scaled w (suc a) (suc b) up = (let ih = scaled w a b (omega (arith, up)) in omega (arith, ih))

all_if : (P : ℕ → Type 0) (b : Bool) (xs ys : List ℕ) → AllByRecursion P xs → AllByRecursion P ys
    → AllByRecursion P (if b then xs else ys)
all_if P true xs ys first second = first
all_if P false xs ys first second = second

all_both : (P : ℕ → Type 0) (xs ys : List ℕ) → AllByRecursion P xs → AllByRecursion P ys → AllByRecursion P (xs ++ ys)
all_both P [] ys first second = second
all_both P (x ∷ xs) ys first second = (first.0, all_both P xs ys first.1 second)

near_nets : (j : Job) (step s : ℕ) (nets : List ℕ) → step ≤ s + 2
    → AllByRecursion (Near j.width step) (map (at j s) nets)
near_nets j step s [] up = tt
near_nets j step s (net ∷ nets) up =
    (near_at j.width step s (position_of j.order net) up, near_nets j step s nets up)

-- So is the step that a register sees two steps back, if there is one.
near_back : (j : Job) (step : ℕ) (pins : List Pin) (back : Option ℕ) → IfSome back (λ s. step ≤ s + 2)
    → AllByRecursion (Near j.width step) (places_back j pins back)
near_back j step pins None up = tt
near_back j step pins (Some s) up = near_nets j step s (net_pins pins) up

steps_back : (j : Job) (step : ℕ) → IfSome (two_back j step) (λ s. step ≤ s + 2)
steps_back j step = by (step == 1) refl
  where
    from : (start : StartRule) → step ≡ 1 → IfSome (before_start start) (λ s. step ≤ s + 2)
    from Cold is = tt
    from Recorded is = omega (arith, is)

    by : (b : Bool) → (step == 1) ≡ b → IfSome (if b then before_start j.start_rule else Some (step - 2)) (λ s. step ≤ s + 2)
    by true is = from j.start_rule (eqb-true step 1 is)
    by false is = omega arith

near_of : (j : Job) (c : ℕ → Value) (step net : ℕ) (driver : Driver)
    → AllByRecursion (Near j.width step) (arguments_of j c step net driver)
near_of j c step net Input =
    all_if (Near j.width step) (is_unknown (j.recorded (step / j.rounds) net)) _ [] (all_if (Near j.width step)
    (step % j.rounds == 0) [] _ tt (near_at j.width step (step - 1) (position_of j.order net) (omega arith), tt)) tt
near_of j c step net Undriven =
    all_if (Near j.width step) (step % j.rounds == 0) [] _ tt
    (near_at j.width step (step - 1) (position_of j.order net) (omega arith), tt)
near_of j c step net (Constant bit) = tt
near_of j c step net (Copy argument) = (near_at j.width step step (position_of j.order argument) (omega arith), tt)
near_of j c step net (Cell table pins) = near_nets j step step (net_pins pins) (omega arith)
near_of j c step net (Register latching) =
    all_if (Near j.width step) (step == 0) [] _ tt (all_if (Near j.width step) (has_uncertain_clock j c step latching) [] _
    tt (all_both (Near j.width step) _ _ (near_back j step latching.pins (two_back j step) (steps_back j step)) (all_both (Near j.width step) _ _
    (near_nets j step (step - 1) (net_pins latching.pins) (omega arith))
    (near_at j.width step (step - 1) (position_of j.order net) (omega arith), tt))))

near_here : (j : Job) → Fits j → (place k : ℕ) → place < places_of j → Near j.width (step_of j place) k
    → place < k + 3 * j.width
near_here j fits place k within near =
    let s = spot j fits place within in
    let whole = s.whole in
    let position = s.position in
    omega (arith, near, whole, position)

-- The argument places of a place, the one that it is carried from, and its essential arguments.
pub near_argument : (j : Job) → Fits j → (c : ℕ → Value) (place k : ℕ) → place < places_of j
    → among (arguments j c place) k ≡ true → place < k + 3 * j.width
unfolding arguments
near_argument j fits c place k within at =
    near_here j fits place k within (all_among (Near j.width (step_of j place)) (arguments j c place) k
    (near_of j c (step_of j place) (net_of j place) (j.driver (net_of j place))) at)

pub near_carried : (j : Job) → Fits j → (c : ℕ → Value) (place from : ℕ) (inverted : Bool) → place < places_of j
    → class_of j c place ≡ Carried from inverted → place < from + 3 * j.width
unfolding arguments
near_carried j fits c place from inverted within is =
    let class : ℕ → ClassByNumber = class_in (classes j c place) in
    let says : ClassSays j c class place (Carried from inverted) = subst (ClassSays j c class place)
    (sym (class_rule j c place) ∙ is) (class_says j c class place) in
    near_here j fits place from within (⊎_elim
    (λ h. subst (Near j.width (step_of j place)) (sym h.1) (near_at j.width (step_of j place) (step_of j place - 1)
    (position_of j.order (net_of j place)) (omega arith)))
    (λ h. all_at (Near j.width (step_of j place)) (arguments j c place) from
    (near_of j c (step_of j place) (net_of j place) (j.driver (net_of j place))) h.0) says)

filter_step : (b : Bool) (x : ℕ) (ys xs : List ℕ) (k : ℕ) → (among ys k ≡ true → among xs k ≡ true)
    → among (cond b (x ∷ ys) ys) k ≡ true → among (x ∷ xs) k ≡ true
filter_step true x ys xs k rest at = ⊎_elim (λ (e : (x == k) ≡ true). or_left (x == k) (among xs k) e)
    (λ (e : among ys k ≡ true). or_right (x == k) (among xs k) (rest e)) (or_cases (x == k) (among ys k) at)
filter_step false x ys xs k rest at = or_right (x == k) (among xs k) (rest at)

among_filter : (t : ℕ → Bool) (xs : List ℕ) (k : ℕ) → among (filter t xs) k ≡ true → among xs k ≡ true
among_filter t [] k at = at
among_filter t (x ∷ xs) k at = filter_step (t x) x (filter t xs) xs k (among_filter t xs k) at

-- An essential argument is an uncertain argument place.
pub essential_argument : (j : Job) (c : ℕ → Value) (place k : ℕ) → among (essentials j c place) k ≡ true
    → (among (arguments j c place) k ≡ true) × (is_unknown (c k) ≡ true) × (k < place)
essential_argument j c place k at =
    let there = among_filter (is_essential j c place) (uncertain_places j c place) k
    (subst (λ xs. among xs k ≡ true) (sym (essentials_filter j c place)) at) in
    let both = in_picked (is_uncertain j c place) place k there in
    let parts = and_parts (among (arguments j c place) k) (is_unknown (c k)) both.1 in
    (parts.0, parts.1, both.0)
