-- Laws of the rule: what it reads.
use Rattle.std.proofs.Common.{◌≡◌, ℕ, zero, suc, ◌+◌, ◌-◌, ◌*◌, ◌/◌, ◌%◌, ◌<◌, ◌≤◌, ◌==◌, Bool, true, false, Option, None, Some, IfSome, List, [], ◌∷◌, ◌++◌, refl, sym, ap, ◌∙◌, arith, if◌then◌else◌, subst}
use Rattle.std.proofs.Math.Nat.{mod-lt, mul-le-mul_right, zero-mod}
use Rattle.std.proofs.lemmas.Grind.{common_steps}
use Rattle.std.specs.List.{AllByRecursion}
use Rattle.design_cell.specs.declared.value.Value.{Value}
use Rattle.design_cell.specs.declared.value.Value.TheVariants.{Zero, One, X, Z}
use Rattle.design_cell.specs.Value.{bit_value, is_unknown}
use Rattle.design_circuit.specs.declared.design.Pin.{Pin}
use Rattle.design_circuit.specs.declared.design.Pin.TheVariants.{Net, Bit, Dead}
use Rattle.design_circuit.specs.declared.design.Driver.{Driver}
use Rattle.design_circuit.specs.declared.design.Driver.TheVariants.{Input, Undriven, Constant, Copy, Cell, Register}
use Rattle.design_circuit.specs.declared.design.Latching.{Latching}
use Rattle.design_circuit.specs.Job.{Job, at, step_of, net_of, places_of}
use Rattle.design_circuit.specs.Order.{arguments_of_driver, net_pins, position_of}
use Rattle.design_circuit.specs.Fits.{Fits, FitsDriver, StandsBefore}
use Rattle.design_circuit.specs.Register.{pins_at, pins_back, old_pins, two_back, updated, has_uncertain_clock}
use Rattle.design_circuit.specs.Replay.{table_of}
use Rattle.design_circuit.specs.Rule.{rule, rule_of, known_or, born, remade, as_values, born_arguments, places_at, places_back, old_places, arguments_of, arguments}
use Rattle.design_circuit.proofs.OrderLemmas.{position_within}
use Rattle.design_circuit.proofs.TwoBack.{back_before}

-- Two functions of places agree on a list of places.
abbrev pub AgreeOn : {A : Type 0} → (ℕ → A) → (ℕ → A) → List ℕ → Type 0
AgreeOn f g places = AllByRecursion (λ place. f place ≡ g place) places

-- They agree below a place.
abbrev pub AgreeBelow : {A : Type 0} → (ℕ → A) → (ℕ → A) → ℕ → Type 0
AgreeBelow f g n = (k : ℕ) → k < n → f k ≡ g k

agree_front : {A : Type 0} (f g : ℕ → A) (xs ys : List ℕ) → AgreeOn f g (xs ++ ys) → AgreeOn f g xs
agree_front f g [] ys agree = tt
agree_front f g (x ∷ xs) ys agree = (agree.0, agree_front f g xs ys agree.1)

agree_back : {A : Type 0} (f g : ℕ → A) (xs ys : List ℕ) → AgreeOn f g (xs ++ ys) → AgreeOn f g ys
agree_back f g [] ys agree = agree
agree_back f g (x ∷ xs) ys agree = agree_back f g xs ys agree.1

-- The values of pins are those of the places that they read.
pins_read : (j : Job) (f g : ℕ → Value) (step : ℕ) (pins : List Pin) → AgreeOn f g (places_at j step pins) → pins_at j f step pins ≡ pins_at j g step pins
pins_read j f g step [] agree = refl
pins_read j f g step (Net net ∷ pins) agree = rw (agree.0, pins_read j f g step pins agree.1) refl
pins_read j f g step (Bit bit ∷ pins) agree = rw (pins_read j f g step pins agree) refl
pins_read j f g step (Dead ∷ pins) agree = rw (pins_read j f g step pins agree) refl

back_read : (j : Job) (f g : ℕ → Value) (pins : List Pin) (back : Option ℕ) → AgreeOn f g (places_back j pins back) → pins_back j f pins back ≡ pins_back j g pins back
back_read j f g pins None agree = refl
back_read j f g pins (Some step) agree = pins_read j f g step pins agree

old_read : (j : Job) (f g : ℕ → Value) (step : ℕ) (pins : List Pin) → AgreeOn f g (old_places j step pins) → old_pins j f step pins ≡ old_pins j g step pins
old_read j f g step pins agree = back_read j f g pins (two_back j step) agree

-- What a register keeps depends on the places that it looks back at alone.
pub updated_reads : (j : Job) (f g : ℕ → Value) (p q : Value) (step : ℕ) (latching : Latching) → AgreeOn f g (old_places j step latching.pins) → AgreeOn f g (places_at j (step - 1) latching.pins) → p ≡ q → updated j f p step latching ≡ updated j g q step latching
updated_reads j f g p q step latching old new kept = rw (old_read j f g step latching.pins old, pins_read j f g (step - 1) latching.pins new, kept) refl

-- So does what it makes of them in a world.
pub remade_reads : (j : Job) (f g : ℕ → Value) (p q : Value) (step : ℕ) (latching : Latching) → AgreeOn f g (old_places j step latching.pins) → AgreeOn f g (places_at j (step - 1) latching.pins) → p ≡ q → remade j f p step latching ≡ remade j g q step latching
remade_reads j f g p q step latching old new kept = rw (old_read j f g step latching.pins old, pins_read j f g (step - 1) latching.pins new, kept) refl

pub clock_reads : (j : Job) (f g : ℕ → Value) (step : ℕ) (latching : Latching) → AgreeOn f g (old_places j step latching.pins) → AgreeOn f g (places_at j (step - 1) latching.pins) → has_uncertain_clock j f step latching ≡ has_uncertain_clock j g step latching
clock_reads j f g step latching old new = rw (old_read j f g step latching.pins old, pins_read j f g (step - 1) latching.pins new) refl

values_agree : (f g : ℕ → Bool) (places : List ℕ) → AgreeOn f g places → AgreeOn (as_values f) (as_values g) places
values_agree f g [] agree = tt
values_agree f g (place ∷ places) agree = (ap bit_value agree.0, values_agree f g places agree.1)

born_reads : (first : Bool) (f g : ℕ → Bool) (before : ℕ) → AgreeOn f g (if first then [] else before ∷ []) → (if first then X else bit_value (f before)) ≡ (if first then X else bit_value (g before))
born_reads true f g before agree = refl
born_reads false f g before agree = ap bit_value agree.0

input_reads : (recorded x y : Value) (places : List ℕ) (f g : ℕ → Bool) → (AgreeOn f g places → x ≡ y) → AgreeOn f g (if is_unknown recorded then places else []) → known_or recorded x ≡ known_or recorded y
input_reads Zero x y places f g same agree = refl
input_reads One x y places f g same agree = refl
input_reads X x y places f g same agree = same agree
input_reads Z x y places f g same agree = same agree

either_reads : (first unclocked : Bool) (start stuck x y : Value) (places : List ℕ) (f g : ℕ → Bool) → (AgreeOn f g places → x ≡ y) → AgreeOn f g (if first then [] else if unclocked then [] else places) → (if first then start else if unclocked then stuck else x) ≡ (if first then start else if unclocked then stuck else y)
either_reads true unclocked start stuck x y places f g same agree = refl
either_reads false true start stuck x y places f g same agree = refl
either_reads false false start stuck x y places f g same agree = same agree

rule_of_reads : (j : Job) (c : ℕ → Value) (f g : ℕ → Bool) (step net : ℕ) (driver : Driver) → AgreeOn f g (arguments_of j c step net driver) → rule_of j c f step net driver ≡ rule_of j c g step net driver
rule_of_reads j c f g step net Input agree =
    input_reads (j.recorded (step / j.rounds) net) (born j f step net) (born j g step net) (born_arguments j step net) f g (born_reads (step % j.rounds == 0) f g (at j (step - 1) net)) agree
rule_of_reads j c f g step net Undriven agree = born_reads (step % j.rounds == 0) f g (at j (step - 1) net) agree
rule_of_reads j c f g step net (Constant bit) agree = refl
rule_of_reads j c f g step net (Copy argument) agree = ap bit_value agree.0
rule_of_reads j c f g step net (Cell table pins) agree =
    ap (table_of j.udps table) (pins_read j (as_values f) (as_values g) step pins (values_agree f g (places_at j step pins) agree))
rule_of_reads j c f g step net (Register latching) agree =
    let old = old_places j step latching.pins in
    let new = places_at j (step - 1) latching.pins in
    let before = at j (step - 1) net in
    let same : AgreeOn f g (old ++ (new ++ before ∷ [])) → remade j (as_values f) (bit_value (f before)) step latching ≡ remade j (as_values g) (bit_value (g before)) step latching =
    λ both. (let later = agree_back f g old (new ++ before ∷ []) both in
    let kept = agree_back f g new (before ∷ []) later in
    remade_reads j (as_values f) (as_values g) (bit_value (f before)) (bit_value (g before)) step latching (values_agree f g old (agree_front f g old (new ++ before ∷ []) both)) (values_agree f g new (agree_front f g new (before ∷ []) later)) (ap bit_value kept.0)) in
    either_reads (step == 0) (has_uncertain_clock j c step latching) (j.start net) (remade j c (c before) step latching) _ _ (old ++ (new ++ before ∷ [])) f g same agree

-- A rule reads the bits of its argument places alone.
pub rule_reads : (j : Job) (c : ℕ → Value) (f g : ℕ → Bool) (place : ℕ) → AgreeOn f g (arguments j c place) → rule j c f place ≡ rule j c g place
unfolding rule arguments
rule_reads j c f g place agree = rule_of_reads j c f g (step_of j place) (net_of j place) (j.driver (net_of j place)) agree

-- A net of the job has a position below its width.
pub position_in : (j : Job) → Fits j → (net : ℕ) → net < j.width → position_of j.order net < j.width
position_in j fits net within =
    let all = fits.all in
    let at = fits.ordering.each net (omega arith) in
    let low = position_within j.order net at.0 at.1 at.2 in
    omega (arith, low, all)

-- Where a place looks back to.
abbrev Below : ℕ → List ℕ → Type 0
Below n places = AllByRecursion (λ k. k < n) places

pub back_one : (w step position p : ℕ) → (step == 0) ≡ false → position < w → (step - 1) * w + position < step * w + p
back_one w zero position p later within = cc
back_one w (suc t) position p later within = let e : suc t - 1 ≡ t = omega arith in rw e (omega arith)

pub back_two : (w step position p : ℕ) → (step == 0) ≡ false → position < w → (step - 2) * w + position < step * w + p
back_two w zero position p later within = cc
back_two w (suc zero) position p later within = omega arith
back_two w (suc (suc t)) position p later within = let e : suc (suc t) - 2 ≡ t = omega arith in rw e (omega arith)

earlier_below : (w step earlier position p : ℕ) → earlier < step → position < w → earlier * w + position < step * w + p
earlier_below w step earlier position p before within =
    let more : suc earlier * w ≤ step * w = mul-le-mul_right w (omega arith) in
    omega (arith, more, within)

nets_below : (j : Job) (step n : ℕ) (pins : List Pin) → ((net : ℕ) → net < j.width → at j step net < n) → AllByRecursion (λ net. net < j.width) (net_pins pins) → Below n (places_at j step pins)
nets_below j step n [] below within = tt
nets_below j step n (Net net ∷ pins) below within = (below net within.0, nets_below j step n pins below within.1)
nets_below j step n (Bit bit ∷ pins) below within = nets_below j step n pins below within
nets_below j step n (Dead ∷ pins) below within = nets_below j step n pins below within

pins_below : (j : Job) (step p : ℕ) (pins : List Pin) → AllByRecursion (StandsBefore j p) (net_pins pins) → Below (step * j.width + p) (places_at j step pins)
pins_below j step p [] before = tt
pins_below j step p (Net net ∷ pins) before = (omega (arith, before.0.before), pins_below j step p pins before.1)
pins_below j step p (Bit bit ∷ pins) before = pins_below j step p pins before
pins_below j step p (Dead ∷ pins) before = pins_below j step p pins before

below_append : (n : ℕ) (xs ys : List ℕ) → Below n xs → Below n ys → Below n (xs ++ ys)
below_append n [] ys front back = back
below_append n (x ∷ xs) ys front back = (front.0, below_append n xs ys front.1 back)

below_unless : (skip : Bool) (n : ℕ) (places : List ℕ) → (skip ≡ false → Below n places) → Below n (if skip then [] else places)
below_unless true n places below = tt
below_unless false n places below = below refl

below_if : (take : Bool) (n : ℕ) (places : List ℕ) → Below n places → Below n (if take then places else [])
below_if true n places below = below
below_if false n places below = tt

back_below : (j : Job) → Fits j → (step p : ℕ) (pins : List Pin) (back : Option ℕ) → IfSome back (λ earlier. earlier < step) → AllByRecursion (λ net. net < j.width) (net_pins pins) → Below (step * j.width + p) (places_back j pins back)
back_below j fits step p pins None before within = tt
back_below j fits step p pins (Some earlier) before within = nets_below j earlier (step * j.width + p) pins (λ net low. earlier_below j.width step earlier (position_of j.order net) p before (position_in j fits net low)) within

-- A register at a later step looks back at places that stand before it.
pub old_below : (j : Job) → Fits j → (step p : ℕ) (latching : Latching) → FitsDriver j.udps j.width (Register latching) → (step == 0) ≡ false → Below (step * j.width + p) (old_places j step latching.pins)
old_below j fits step p latching driver later =
    back_below j fits step p latching.pins (two_back j step) (back_before j step later) driver.nets

pub new_below : (j : Job) → Fits j → (step p : ℕ) (latching : Latching) → FitsDriver j.udps j.width (Register latching) → (step == 0) ≡ false → Below (step * j.width + p) (places_at j (step - 1) latching.pins)
new_below j fits step p latching driver later =
    nets_below j (step - 1) (step * j.width + p) latching.pins (λ net within. back_one j.width step (position_of j.order net) p later (position_in j fits net within)) driver.nets

pub later_round : (step rounds : ℕ) → (step % rounds == 0) ≡ false → (step == 0) ≡ false
later_round zero rounds h = absurd (differ (subst (λ k. (k == 0) ≡ false) (zero-mod rounds) h))
  where
    differ : true ≡ false → ⊥
    differ e = cc
later_round (suc step) rounds h = grind (arith, common_steps)

born_below : (j : Job) → Fits j → (step p net : ℕ) → net < j.width → Below (step * j.width + p) (born_arguments j step net)
born_below j fits step p net within = below_unless (step % j.rounds == 0) (step * j.width + p) (at j (step - 1) net ∷ []) (λ (h : (step % j.rounds == 0) ≡ false). (back_one j.width step (position_of j.order net) p (later_round step j.rounds h) (position_in j fits net within), tt))

arguments_of_below : (j : Job) → Fits j → (c : ℕ → Value) (step p net : ℕ) → net < j.width → (driver : Driver) → FitsDriver j.udps j.width driver → AllByRecursion (StandsBefore j p) (arguments_of_driver driver) → Below (step * j.width + p) (arguments_of j c step net driver)
arguments_of_below j fits c step p net within Input driver before = below_if (is_unknown (j.recorded (step / j.rounds) net)) _ _ (born_below j fits step p net within)
arguments_of_below j fits c step p net within Undriven driver before = born_below j fits step p net within
arguments_of_below j fits c step p net within (Constant bit) driver before = tt
arguments_of_below j fits c step p net within (Copy argument) driver before = (omega (arith, before.0.before), tt)
arguments_of_below j fits c step p net within (Cell table pins) driver before = pins_below j step p pins before
arguments_of_below j fits c step p net within (Register latching) driver before =
    let n = step * j.width + p in
    let old = old_places j step latching.pins in
    let new = places_at j (step - 1) latching.pins in
    below_unless (step == 0) n (if has_uncertain_clock j c step latching then [] else old ++ (new ++ at j (step - 1) net ∷ [])) (λ (later : (step == 0) ≡ false).
    below_unless (has_uncertain_clock j c step latching) n (old ++ (new ++ at j (step - 1) net ∷ [])) (λ clocked.
    below_append n old (new ++ at j (step - 1) net ∷ []) (old_below j fits step p latching driver later) (below_append n new (at j (step - 1) net ∷ []) (new_below j fits step p latching driver later) (back_one j.width step (position_of j.order net) p later (position_in j fits net within), tt))))

-- What a place of the job is made of.
pub record Spot (j : Job) (place : ℕ) : Type 0 where
  pub position : place % j.width < j.width
  pub whole : step_of j place * j.width + place % j.width ≡ place
  pub net : net_of j place < j.width
  pub driver : FitsDriver j.udps j.width (j.driver (net_of j place))
  pub before : AllByRecursion (StandsBefore j (place % j.width)) (arguments_of_driver (j.driver (net_of j place)))

-- Where there is a place, there is a net.
pub some_width : (w k place : ℕ) → place < w * k → 0 < w
some_width zero k place within = omega arith
some_width (suc w) k place within = omega arith

pub spot : (j : Job) → Fits j → (place : ℕ) → place < places_of j → Spot j place
spot j fits place within = record {
  position = index;
  whole = omega (arith, some);
  net = inside;
  driver = fits.pins (net_of j place) inside;
  before = fits.arguments (place % j.width) index;
}
  where
    some : 0 < j.width
    some = some_width j.width (j.moments * j.rounds) place within

    index : place % j.width < j.width
    index = mod-lt place some

    inside : net_of j place < j.width
    inside =
        let all = fits.all in
        let below = fits.ordering.below (place % j.width) (omega (arith, index, all)) in
        omega (arith, all, below)

-- The argument places stand before the place.
pub arguments_below : (j : Job) → Fits j → (c : ℕ → Value) (place : ℕ) → place < places_of j → AllByRecursion (λ k. k < place) (arguments j c place)
unfolding arguments
arguments_below j fits c place within =
    let s = spot j fits place within in
    subst (λ n. Below n (arguments_of j c (step_of j place) (net_of j place) (j.driver (net_of j place)))) s.whole
    (arguments_of_below j fits c (step_of j place) (place % j.width) (net_of j place) s.net (j.driver (net_of j place)) s.driver s.before)

pub agree_on : {A : Type 0} (f g : ℕ → A) (n : ℕ) (places : List ℕ) → AgreeBelow f g n → Below n places → AgreeOn f g places
agree_on f g n [] agree below = tt
agree_on f g n (place ∷ places) agree below = (agree place below.0, agree_on f g n places agree below.1)

either_certain : (first a b : Bool) (start x y z : Value) → (first ≡ false → a ≡ b) → (first ≡ false → x ≡ y) → (if first then start else if a then x else z) ≡ (if first then start else if b then y else z)
either_certain true a b start x y z clock value = refl
either_certain false a b start x y z clock value = rw (clock refl, value refl) refl

rule_of_certain : (j : Job) → Fits j → (c d : ℕ → Value) (f : ℕ → Bool) (step p net : ℕ) → net < j.width → (driver : Driver) → FitsDriver j.udps j.width driver → AgreeBelow c d (step * j.width + p) → rule_of j c f step net driver ≡ rule_of j d f step net driver
rule_of_certain j fits c d f step p net within Input driver agree = refl
rule_of_certain j fits c d f step p net within Undriven driver agree = refl
rule_of_certain j fits c d f step p net within (Constant bit) driver agree = refl
rule_of_certain j fits c d f step p net within (Copy argument) driver agree = refl
rule_of_certain j fits c d f step p net within (Cell table pins) driver agree = refl
rule_of_certain j fits c d f step p net within (Register latching) driver agree =
    let n = step * j.width + p in
    let old : (step == 0) ≡ false → AgreeOn c d (old_places j step latching.pins) = λ later. agree_on c d n (old_places j step latching.pins) agree (old_below j fits step p latching driver later) in
    let new : (step == 0) ≡ false → AgreeOn c d (places_at j (step - 1) latching.pins) = λ later. agree_on c d n (places_at j (step - 1) latching.pins) agree (new_below j fits step p latching driver later) in
    let kept : (step == 0) ≡ false → c (at j (step - 1) net) ≡ d (at j (step - 1) net) = λ later. agree (at j (step - 1) net) (back_one j.width step (position_of j.order net) p later (position_in j fits net within)) in
    either_certain (step == 0) (has_uncertain_clock j c step latching) (has_uncertain_clock j d step latching) (j.start net) _ _ _ (λ later. clock_reads j c d step latching (old later) (new later)) (λ later. remade_reads j c d _ _ step latching (old later) (new later) (kept later))

-- A rule reads the certain values of the places before it alone.
pub rule_certain : (j : Job) → Fits j → (c d : ℕ → Value) (f : ℕ → Bool) (place : ℕ) → place < places_of j → AgreeBelow c d place → rule j c f place ≡ rule j d f place
unfolding rule
rule_certain j fits c d f place within agree =
    let s = spot j fits place within in
    rule_of_certain j fits c d f (step_of j place) (place % j.width) (net_of j place) s.net (j.driver (net_of j place)) s.driver (subst (AgreeBelow c d) (sym s.whole) agree)

-- A rule reads places before it alone.
pub rule_local : (j : Job) → Fits j → (c d : ℕ → Value) (f g : ℕ → Bool) (place : ℕ) → place < places_of j → AgreeBelow c d place → AgreeBelow f g place → rule j c f place ≡ rule j d g place
rule_local j fits c d f g place within certains bits =
    rule_certain j fits c d f place within certains ∙ rule_reads j d f g place (agree_on f g place (arguments j d place) bits (arguments_below j fits d place within))

arguments_of_certain : (j : Job) → Fits j → (c d : ℕ → Value) (step p net : ℕ) (driver : Driver) → FitsDriver j.udps j.width driver → AgreeBelow c d (step * j.width + p) → arguments_of j c step net driver ≡ arguments_of j d step net driver
arguments_of_certain j fits c d step p net Input driver agree = refl
arguments_of_certain j fits c d step p net Undriven driver agree = refl
arguments_of_certain j fits c d step p net (Constant bit) driver agree = refl
arguments_of_certain j fits c d step p net (Copy argument) driver agree = refl
arguments_of_certain j fits c d step p net (Cell table pins) driver agree = refl
arguments_of_certain j fits c d step p net (Register latching) driver agree =
    let n = step * j.width + p in
    either_same (step == 0) (has_uncertain_clock j c step latching) (has_uncertain_clock j d step latching) _ (λ later.
    clock_reads j c d step latching (agree_on c d n (old_places j step latching.pins) agree (old_below j fits step p latching driver later)) (agree_on c d n (places_at j (step - 1) latching.pins) agree (new_below j fits step p latching driver later)))
  where
    either_same : (first a b : Bool) (places : List ℕ) → (first ≡ false → a ≡ b) → (if first then [] else if a then [] else places) ≡ (if first then [] else if b then [] else places)
    either_same true a b places clock = refl
    either_same false a b places clock = rw (clock refl) refl

-- So are its argument places.
pub arguments_certain : (j : Job) → Fits j → (c d : ℕ → Value) (place : ℕ) → place < places_of j → AgreeBelow c d place → arguments j c place ≡ arguments j d place
unfolding arguments
arguments_certain j fits c d place within agree =
    let s = spot j fits place within in
    arguments_of_certain j fits c d (step_of j place) (place % j.width) (net_of j place) (j.driver (net_of j place)) s.driver (subst (AgreeBelow c d) (sym s.whole) agree)
