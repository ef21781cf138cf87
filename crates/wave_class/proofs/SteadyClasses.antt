-- The class of a place whose rule gives what it gave for its net's place at the step before.
use Rattle.std.proofs.Common.{◌≡◌, ℕ, zero, suc, ◌+◌, ◌-◌, ◌*◌, ◌<◌, ◌≤◌, ◌==◌, ◌&&◌, not, Bool, true, false, List, []}
use Rattle.std.proofs.Common.{◌∷◌, refl, sym, ap, ◌∙◌, arith, subst, if◌then◌else◌, ⊎_elim}
use Rattle.std.specs.Prelude.{nat_lt}
use Rattle.std.specs.List.{AllByRecursion}
use Rattle.std.proofs.lemmas.Bool.{and_parts, lt-ltb, ne_eqb, eqb-true, or_cases}
use Rattle.design_cell.specs.declared.value.Value.{Value}
use Rattle.design_cell.specs.declared.value.Value.TheVariants.{Zero, One, X, Z}
use Rattle.design_cell.specs.Value.{is_unknown}
use Rattle.design_circuit.specs.declared.spot.Spot.{Spot}
use Rattle.design_circuit.specs.declared.design.Driver.TheVariants.{Cell, Register}
use Rattle.design_circuit.specs.declared.design.Latching.{Latching}
use Rattle.design_circuit.specs.declared.design.Pin.{Pin}
use Rattle.design_circuit.specs.declared.design.Table.{Table}
use Rattle.design_circuit.specs.Circuit.{IsSpot, Reach}
use Rattle.design_circuit.specs.Fits.{Fits, Standing}
use Rattle.design_circuit.specs.Job.{Job, at, net_of, places_of, step_of}
use Rattle.design_circuit.specs.Order.{net_pins, position_of}
use Rattle.design_circuit.specs.Register.{had_uncertain_clock, has_uncertain_clock}
use Rattle.design_circuit.specs.Rule.{arguments, remade, rule}
use Rattle.design_circuit.proofs.LevelRule.{clock_never}
use Rattle.design_circuit.proofs.Rules.{back_two, position_in, rule_reads}
use Rattle.law_model.specs.Assignment.{assigned, for_every}
use Rattle.law_model.specs.Class.{before, carried_or_line, is_carried_on, class_of, flipped, is_bit, is_carrier, is_free}
use Rattle.law_model.specs.Class.{is_local, is_never_unknown, passes_on, passes_on_of}
use Rattle.law_model.specs.Yields.{is_line}
use Rattle.law_model.specs.declared.class.ClassByNumber.{ClassByNumber}
use Rattle.law_model.specs.declared.class.ClassByNumber.TheVariants.{Local, Free, Carried, Line}
use Rattle.law_model.proofs.Assignments.{every_passes, passes_every}
use Rattle.law_model.proofs.CarryLaw.{net_at, step_at}
use Rattle.law_model.proofs.Classes.{ClassSays, all_at, class_says}
use Rattle.law_model.proofs.ClassFromClasses.{class_is}
use Rattle.wave_class.specs.Facts.{AgreeBefore, AgreesWith, AreTold, Facts, facts_of, is_open, is_plain, plain_class}
use Rattle.wave_class.specs.Keeps.{SeesTheSame, class_here, later_class, nets_keep, place_passes}
use Rattle.wave_class.proofs.MovedRules.{OneBack, SameKinds, cell_moves, kept_values, kinds_moved, register_moves}
use Rattle.wave_class.proofs.MovedRules.{rule_here}
use Rattle.wave_class.proofs.Reached.{nets_back, nets_standing}
use Rattle.wave_class.proofs.StepBefore.{before_later, one_back as one_less}

-- A class that is neither local nor free isn't plain.
by_tests : (a b : Bool) (from : ℕ) (rest : ClassByNumber) → is_plain rest ≡ false
    → is_plain (if a then Carried from false else if b then Carried from true else rest) ≡ false
by_tests true b from rest none = refl
by_tests false true from rest none = refl
by_tests false false from rest none = none

line_open : (j : Job) (c : ℕ → Value) (place : ℕ) (places : List ℕ)
    → is_plain (carried_or_line j c place places) ≡ false
line_open j c place [] = refl
line_open j c place (from ∷ others) = by_tests (is_carrier j c place from false) (is_carrier j c place from true)
    from (carried_or_line j c place others) (line_open j c place others)

either_open : (on : Bool) (from : ℕ) (rest : ClassByNumber) → is_plain rest ≡ false
    → is_plain (if on then Carried from false else rest) ≡ false
either_open true from rest none = refl
either_open false from rest none = none

later_open : (j : Job) (c : ℕ → Value) (place : ℕ) → is_plain (later_class j c place) ≡ false
later_open j c place = either_open (place_passes j c place) (before j place)
    (carried_or_line j c place (arguments j c place)) (line_open j c place (arguments j c place))

-- The first that applies of local, free and the rest.
abbrev first_of_three : Bool → Bool → Bool → ClassByNumber → ClassByNumber
first_of_three zero_is one_is free rest =
    if zero_is then Local false else if one_is then Local true else if free then Free else rest

first_plain : (a b d : Bool) (rest other : ClassByNumber) → is_plain other ≡ false
    → is_plain (first_of_three a b d other) ≡ true → first_of_three a b d rest ≡ first_of_three a b d other
first_plain true b d rest other none plain = refl
first_plain false true d rest other none plain = refl
first_plain false false true rest other none plain = refl
first_plain false false false rest other none plain = cc

first_open : (a b d : Bool) (other : ClassByNumber) → is_plain (first_of_three a b d other) ≡ false
    → (a ≡ false) × (b ≡ false) × (d ≡ false)
first_open true b d other none = cc
first_open false true d other none = cc
first_open false false true other none = cc
first_open false false false other none = (refl, refl, refl)

first_rest : (a b d : Bool) (rest other : ClassByNumber) → is_plain (first_of_three a b d other) ≡ false
    → first_of_three a b d rest ≡ rest
first_rest a b d rest other none =
    let open_is = first_open a b d other none in
    rw (open_is.0, open_is.1, open_is.2) refl

as_back : (j : Job) (c : ℕ → Value) (place back : ℕ) → SameKinds j c place back → class_here j c place
    ≡ first_of_three (is_local j c back false) (is_local j c back true) (is_free j c back) (later_class j c place)
as_back j c place back same =
    ap (λ a. first_of_three a (is_local j c place true) (is_free j c place) (later_class j c place)) (same.local false)
    ∙ ap (λ b. first_of_three (is_local j c back false) b (is_free j c place) (later_class j c place)) (same.local true)
    ∙ ap (λ d. first_of_three (is_local j c back false) (is_local j c back true) d (later_class j c place)) same.free

pub plain_is : (c : ℕ → Value) (class : ClassByNumber) (v : Value) → is_plain class ≡ true → AgreesWith c class v
    → class ≡ plain_class v
plain_is c (Local false) v plain agrees = sym (ap plain_class agrees)
plain_is c (Local true) v plain agrees = sym (ap plain_class agrees)
plain_is c Free v plain agrees = sym (ap plain_class agrees)
plain_is c (Carried from inverted) v plain agrees = cc
plain_is c Line v plain agrees = cc

pub line_is : (class : ClassByNumber) → is_line class ≡ true → class ≡ Line
line_is (Local bit) is = cc
line_is Free is = cc
line_is (Carried from inverted) is = cc
line_is Line is = refl

-- A place that is neither has none of the three.
pub open_tests : (j : Job) → Fits j → (c : ℕ → Value) (place : ℕ) → place < places_of j
    → is_plain (class_of j c place) ≡ false
    → (is_local j c place false ≡ false) × (is_local j c place true ≡ false) × (is_free j c place ≡ false)
open_tests j fits c place within none =
    first_open (is_local j c place false) (is_local j c place true) (is_free j c place) (later_class j c place)
    (ap is_plain (sym (class_is j fits c place within)) ∙ none)

-- Where the place before is local or free, so is this one.
pub steady_plain : (j : Job) → Fits j → (c : ℕ → Value) (place back : ℕ) → back < places_of j → SameKinds j c place back
    → AgreesWith c (class_of j c back) (c back) → is_plain (class_of j c back) ≡ true
    → plain_class (c back) ≡ class_here j c place
steady_plain j fits c place back within same agrees plain =
    let is = class_is j fits c back within in
    sym (as_back j c place back same
    ∙ first_plain (is_local j c back false) (is_local j c back true) (is_free j c back) (later_class j c place)
    (later_class j c back) (later_open j c back) (ap is_plain (sym is) ∙ plain)
    ∙ sym is ∙ plain_is c (class_of j c back) (c back) plain agrees)

-- Where it is neither, this one is carried from it if it passes its net's bit on.
pub steady_open : (j : Job) → Fits j → (c : ℕ → Value) (place back : ℕ) → back < places_of j → SameKinds j c place back
    → is_plain (class_of j c back) ≡ false → place_passes j c place ≡ true
    → Carried (before j place) false ≡ class_here j c place
steady_open j fits c place back within same none passes =
    let is = class_is j fits c back within in
    sym (as_back j c place back same
    ∙ first_rest (is_local j c back false) (is_local j c back true) (is_free j c back) (later_class j c place)
    (later_class j c back) (ap is_plain (sym is) ∙ none)
    ∙ ap (λ on. if on then Carried (before j place) false else carried_or_line j c place (arguments j c place)) passes)

-- A carried place of a cell is x for no assignment.
bit_known : (v : Value) (bit : Bool) → is_bit v bit ≡ true → not (is_unknown v) ≡ true
bit_known Zero bit is = refl
bit_known One bit is = refl
bit_known X bit is = cc
bit_known Z bit is = cc

pub copy_known : (j : Job) (c : ℕ → Value) (place from : ℕ) (inverted : Bool)
    → ClassSays j c (class_of j c) place (Carried from inverted)
    → ((passes_on j c (class_of j c) place ≡ true) → is_never_unknown j c place ≡ true)
    → is_never_unknown j c place ≡ true
copy_known j c place from inverted says passes =
    ⊎_elim (λ h. passes h.0) (λ h. passes_every j c place (λ bits. not (is_unknown (rule j c bits place)))
    (λ bits. bit_known (rule j c (assigned c bits) place) (flipped inverted (assigned c bits from))
    (every_passes j c place (λ b. is_bit (rule j c b place) (flipped inverted (b from)))
    (λ f g agree. (rw (rule_reads j c f g place agree, all_at (λ k. f k ≡ g k) (arguments j c place) from agree h.0)
    refl))
    (and_parts (is_unknown (c from))
    (for_every j c place (λ bits. is_bit (rule j c bits place) (flipped inverted (bits from)))) h.1).1 bits)))
    says

pub carried_on : (class : ClassByNumber) (back : ℕ) → is_carried_on class back ≡ true → class ≡ Carried back false
carried_on (Local bit) back on = cc
carried_on Free back on = cc
carried_on (Carried from false) back on =
    ap (λ k. Carried k false) (eqb-true from back (and_parts (from == back) true on).0)
carried_on (Carried from true) back on = let none = (and_parts (from == back) false on).1 in cc
carried_on Line back on = cc

pub carrying_known : (j : Job) → Fits j → (c : ℕ → Value) (place : ℕ) (table : Table) (pins : List Pin)
    → place < places_of j → j.driver (net_of j place) ≡ Cell table pins
    → is_carried_on (class_of j c place) (before j place) ≡ true → is_never_unknown j c place ≡ true
carrying_known j fits c place table pins within driver on =
    let class : class_of j c place ≡ Carried (before j place) false =
    carried_on (class_of j c place) (before j place) on in
    copy_known j c place (before j place) false
    (subst (ClassSays j c (class_of j c) place) (sym (class_is j fits c place within) ∙ class)
    (class_says j c (class_of j c) place))
    (λ passes. (and_parts (not (step_of j place == 0) && nets_keep j c (step_of j place) (net_pins pins))
    (is_never_unknown j c place)
    (sym (ap (passes_on_of j c (class_of j c) place (step_of j place) (net_of j place)) driver) ∙ passes)).1)

-- A class that is carried from the step before, or Line, is neither local nor free.
pub carried_open : (class : ClassByNumber) (back : ℕ) → is_carried_on class back ≡ true → is_plain class ≡ false
carried_open class back on = ap is_plain (carried_on class back on)

pub line_is_open : (class : ClassByNumber) → is_line class ≡ true → is_plain class ≡ false
line_is_open class is = ap is_plain (line_is class is)

-- So a place that is told to be open is neither.
pub open_told : (j : Job) (c : ℕ → Value) (place : ℕ) (told : Facts) → AreTold told (facts_of j c place)
    → is_open told ≡ true → is_plain (class_of j c place) ≡ false
open_told j c place told are is =
    ⊎_elim (λ (h : told.carries ≡ true). carried_open (class_of j c place) (before j place) (are.carries h))
    (λ (h : told.line ≡ true). line_is_open (class_of j c place) (are.line h)) (or_cases told.carries told.line is)

-- The place of the same net a step before a spot at a later step.
pub one_back : (j : Job) → Fits j → (place : ℕ) (spot : Spot) → IsSpot j place spot → 0 < spot.step
    → OneBack j place (before j place) spot.step (spot.step - 1) spot.net
one_back j fits place spot is later =
    let net_is = is.net in
    let low = is.net_within in
    let within : net_of j place < j.width = omega (arith, net_is, low) in
    record {
      next = omega (arith, later);
      here_step = sym is.step;
      here_net = sym is.net;
      back_step = step_at j fits (step_of j place - 1) (net_of j place) within ∙ ap (λ k. k - 1) (sym is.step);
      back_net = net_at j fits (step_of j place - 1) (net_of j place) within ∙ sym is.net;
    }

later_width : (w step position place : ℕ) → step * w + position ≡ place → 0 < step → w ≤ place
later_width w zero position place whole later = absurd (omega arith)
later_width w (suc t) position place whole later = omega (arith, whole)

pub back_is : (j : Job) → Fits j → (place : ℕ) (spot : Spot) → IsSpot j place spot → 0 < spot.step
    → place - j.width ≡ before j place
back_is j fits place spot is later = before_later j fits place is.place_within
    (later_width j.width spot.step spot.position place is.place_is later)

pub before_less : (j : Job) → Fits j → (place : ℕ) (spot : Spot) → IsSpot j place spot → 0 < spot.step
    → before j place < place
before_less j fits place spot is later =
    let less = later_width j.width spot.step spot.position place is.place_is later in
    let e = back_is j fits place spot is later in
    let low = is.position_within in
    omega (arith, less, e, low)

-- The same with a width that code found.
pub later_than_none : (step : ℕ) → (step ≡ 0 → ⊥) → 0 < step
later_than_none zero some = absurd (some refl)
later_than_none (suc t) some = omega arith

pub back_to : (j : Job) → Fits j → (place width : ℕ) (spot : Spot) → IsSpot j place spot → width ≡ j.width
    → 0 < spot.step → place - width ≡ before j place
back_to j fits place width spot is width_is later = ap (λ w. place - w) width_is ∙ back_is j fits place spot is later

pub back_at : (j : Job) → Fits j → (place width : ℕ) (spot : Spot) → IsSpot j place spot → width ≡ j.width
    → 0 < spot.step → place - width ≡ at j (spot.step - 1) spot.net
back_at j fits place width spot is width_is later =
    back_to j fits place width spot is width_is later
    ∙ ap (λ s. at j (s - 1) (net_of j place)) (sym is.step) ∙ ap (at j (spot.step - 1)) (sym is.net)

pub two_back_at : (j : Job) → Fits j → (place width : ℕ) (spot : Spot) → IsSpot j place spot → width ≡ j.width
    → 1 < spot.step → place - width - width ≡ at j (spot.step - 2) spot.net
two_back_at j fits place width spot is width_is later =
    let less : spot.step - 1 - 1 ≡ spot.step - 2 = omega arith in
    ap (λ k. k - width) (back_at j fits place width spot is width_is (omega (arith, later)))
    ∙ ap (λ w. at j (spot.step - 1) spot.net - w) width_is
    ∙ one_less j.width (spot.step - 1) (position_of j.order spot.net) (at j (spot.step - 1) spot.net) refl
    (λ e. omega (arith, e, later))
    ∙ ap (λ s. at j s spot.net) less

-- A cell whose pins keep.
pub cell_kinds : (j : Job) → Fits j → (c : ℕ → Value) (place : ℕ) (spot : Spot) (table : Table) (pins : List Pin)
    → IsSpot j place spot → 0 < spot.step → j.driver spot.net ≡ Cell table pins
    → Standing j spot.position (net_pins pins)
    → AgreeBefore j c place → nets_keep j c spot.step (net_pins pins) ≡ true → SameKinds j c place (before j place)
cell_kinds j fits c place spot table pins is later driver stands agree keep =
    let one = one_back j fits place spot is later in
    kinds_moved j c place (before j place)
    (cell_moves j c place (before j place) spot.step (spot.step - 1) spot.net table pins one driver
    (kept_values j c place spot.step (spot.step - 1) (net_pins pins) one.next agree
    (nets_standing j place spot (net_pins pins) is stands) keep))

pub cell_on : (j : Job) (c : ℕ → Value) (place : ℕ) (spot : Spot) (table : Table) (pins : List Pin)
    → IsSpot j place spot → 0 < spot.step → j.driver spot.net ≡ Cell table pins
    → nets_keep j c spot.step (net_pins pins) ≡ true → is_never_unknown j c place ≡ true
    → place_passes j c place ≡ true
cell_on j c place spot table pins is later driver keep known =
    ap (passes_on_of j c (class_of j c) place (step_of j place) (net_of j place)) (ap j.driver (sym is.net) ∙ driver)
    ∙ ap (λ s. not (s == 0) && nets_keep j c s (net_pins pins) && is_never_unknown j c place) (sym is.step)
    ∙ (rw (ne_eqb spot.step 0 (λ e. omega (arith, e, later)), keep, known) refl)

-- A register that looks back at what it looked back at a step before.
register_kinds_at : (j : Job) (c : ℕ → Value) (place back s t u v net : ℕ) (latching : Latching)
    → OneBack j place back s t net → t ≡ suc u → u ≡ suc v → j.driver net ≡ Register latching
    → AgreeBefore j c place → AllByRecursion (Reach j (λ k. k < place) t) (net_pins latching.pins)
    → AllByRecursion (Reach j (λ k. k < place) u) (net_pins latching.pins)
    → c (at j t net) ≡ c (at j u net) → nets_keep j c t (net_pins latching.pins) ≡ true
    → nets_keep j c u (net_pins latching.pins) ≡ true → SameKinds j c place back
register_kinds_at j c place back s t u v net latching one t_is u_is driver agree near far own new old =
    kinds_moved j c place back
    (register_moves j c place back s t u v net latching one t_is u_is driver own
    (kept_values j c place t u (net_pins latching.pins) t_is agree near new)
    (kept_values j c place u v (net_pins latching.pins) u_is agree far old))

pub nets_two_back : (j : Job) → Fits j → (place : ℕ) (spot : Spot) (nets : List ℕ) → IsSpot j place spot
    → 0 < spot.step → AllByRecursion (λ net. net < j.width) nets
    → AllByRecursion (Reach j (λ k. k < place) (spot.step - 2)) nets
nets_two_back j fits place spot [] is later within = tt
nets_two_back j fits place spot (net ∷ nets) is later within =
    let whole = is.place_is in
    let back = back_two j.width spot.step (position_of j.order net) spot.position
    (ne_eqb spot.step 0 (λ e. omega (arith, e, later))) (position_in j fits net within.0) in (
      record { within = within.0; has_it = omega (arith, whole, back) },
      nets_two_back j fits place spot nets is later within.1,
    )

pub register_kinds : (j : Job) → Fits j → (c : ℕ → Value) (place : ℕ) (spot : Spot) (latching : Latching)
    → IsSpot j place spot → j.driver spot.net ≡ Register latching
    → AllByRecursion (λ net. net < j.width) (net_pins latching.pins) → AgreeBefore j c place
    → SeesTheSame j c spot.step spot.net latching → SameKinds j c place (before j place)
register_kinds j fits c place spot latching is driver within agree same =
    let low = same.later in
    let later : 0 < spot.step = omega (arith, low) in
    register_kinds_at j c place (before j place) spot.step (spot.step - 1) (spot.step - 2) (spot.step - 3) spot.net
    latching
    (one_back j fits place spot is later) (omega (arith, low)) (omega (arith, low)) driver agree
    (nets_back j fits place spot (net_pins latching.pins) is later within)
    (nets_two_back j fits place spot (net_pins latching.pins) is later within) same.own same.new same.old

-- It is local or free where a clock pin isn't certain, since it reads no bits then.
differ : true ≡ false → ⊥
differ e = cc

not_constant : (j : Job) (c : ℕ → Value) (place : ℕ) (v : Value) → ((bits : ℕ → Bool) → rule j c bits place ≡ v)
    → is_local j c place false ≡ false → is_local j c place true ≡ false → is_free j c place ≡ false → ⊥
not_constant j c place Zero gives zero_is one_is free = differ (sym (passes_every j c place
    (λ bits. is_bit (rule j c bits place) false) (λ bits. ap (λ v. is_bit v false) (gives (assigned c bits))))
    ∙ zero_is)
not_constant j c place One gives zero_is one_is free = differ (sym (passes_every j c place
    (λ bits. is_bit (rule j c bits place) true) (λ bits. ap (λ v. is_bit v true) (gives (assigned c bits)))) ∙ one_is)
not_constant j c place X gives zero_is one_is free = differ (sym (passes_every j c place
    (λ bits. is_unknown (rule j c bits place)) (λ bits. ap is_unknown (gives (assigned c bits)))) ∙ free)
not_constant j c place Z gives zero_is one_is free = differ (sym (passes_every j c place
    (λ bits. is_unknown (rule j c bits place)) (λ bits. ap is_unknown (gives (assigned c bits)))) ∙ free)

stuck : (a b : Bool) (x y z : Value) → a ≡ false → b ≡ true → (if a then x else if b then y else z) ≡ y
stuck a b x y z a_is b_is = rw (a_is, b_is) refl

pub clock_certain : (j : Job) (c : ℕ → Value) (place s net : ℕ) (latching : Latching) (uncertain : Bool) → 0 < s
    → step_of j place ≡ s → net_of j place ≡ net → j.driver net ≡ Register latching
    → is_local j c place false ≡ false → is_local j c place true ≡ false → is_free j c place ≡ false
    → has_uncertain_clock j c s latching ≡ uncertain → uncertain ≡ false
clock_certain j c place s net latching false later step_is net_is driver zero_is one_is free is = refl
clock_certain j c place s net latching true later step_is net_is driver zero_is one_is free is =
    absurd (not_constant j c place (remade j c (c (at j (s - 1) net)) s latching)
    (λ bits. rule_here j c bits place s net (Register latching) step_is net_is driver
    ∙ stuck (s == 0) (has_uncertain_clock j c s latching) _ _ _ (ne_eqb s 0 (λ e. omega (arith, e, later))) is)
    zero_is one_is free)

pub register_on : (j : Job) → Fits j → (c : ℕ → Value) (place : ℕ) (spot : Spot) (latching : Latching)
    → IsSpot j place spot → j.driver spot.net ≡ Register latching → before j place < places_of j
    → SeesTheSame j c spot.step spot.net latching → SameKinds j c place (before j place)
    → is_plain (class_of j c (before j place)) ≡ false → place_passes j c place ≡ true
register_on j fits c place spot latching is driver within same kinds none =
    let low = same.later in
    let back = before j place in
    let open_is = open_tests j fits c back within none in
    let here = clock_certain j c place spot.step spot.net latching (has_uncertain_clock j c spot.step latching)
    (omega (arith, low)) (sym is.step) (sym is.net) driver (kinds.local false ∙ open_is.0)
    (kinds.local true ∙ open_is.1) (kinds.free ∙ open_is.2) refl in
    let one = one_back j fits place spot is (omega (arith, low)) in
    let earlier = clock_certain j c back (spot.step - 1) spot.net latching
    (has_uncertain_clock j c (spot.step - 1) latching) (omega (arith, low)) one.back_step one.back_net driver
    open_is.0 open_is.1 open_is.2 refl in
    let clock : had_uncertain_clock j c spot.step latching ≡ false =
    clock_never j c spot.step latching here earlier in
    ap (passes_on_of j c (class_of j c) place (step_of j place) (net_of j place)) (ap j.driver (sym is.net) ∙ driver)
    ∙ ap (λ s. nat_lt 1 s && not (had_uncertain_clock j c s latching) && nets_keep j c (s - 1) (net_pins latching.pins))
    (sym is.step)
    ∙ (rw (lt-ltb 1 spot.step (omega (arith, low)), clock, same.new) refl)
