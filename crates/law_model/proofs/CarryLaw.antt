-- The carry law: in every world a carried place has the bit of the place that it is carried from, or its complement.
use Rattle.std.proofs.Common.{◌≡◌, ℕ, zero, suc, ◌-◌, ◌/◌, ◌%◌, ◌<◌, ◌≤◌, ◌==◌, ◌&&◌, ◌||◌, not, Bool, true, false, List, [], ◌∷◌, refl, sym, ap, ◌∙◌, arith, if◌then◌else◌, subst, ⊎_elim}
use Rattle.std.specs.Prelude.{nat_lt}
use Rattle.std.specs.List.{AllByRecursion, list_all, Contains}
use Rattle.std.proofs.lemmas.Nat.{div-mul-add, mod-mul-add}
use Rattle.std.proofs.lemmas.Bool.{and_parts, or_cases}
use Rattle.std.proofs.lemmas.Bool.{eqb-true, ltb-true, ne_eqb}
use Rattle.std.proofs.lemmas.Grind.{common_steps}
use Rattle.design_cell.specs.declared.value.Value.{Value}
use Rattle.design_cell.specs.declared.value.Value.TheVariants.{Zero, One, X, Z}
use Rattle.design_cell.specs.Hold.{hold}
use Rattle.design_cell.specs.Value.{IsKnown, bit_value, is_unknown}
use Rattle.design_circuit.specs.declared.design.Pin.{Pin}
use Rattle.design_circuit.specs.declared.design.Pin.TheVariants.{Net, Bit, Dead}
use Rattle.design_circuit.specs.declared.design.Driver.{Driver}
use Rattle.design_circuit.specs.declared.design.Driver.TheVariants.{Input, Undriven, Constant, Copy, Cell, Register}
use Rattle.design_circuit.specs.Job.{Job, at, step_of, net_of, places_of, primitive_of}
use Rattle.design_circuit.specs.Order.{net_pins, position_of, arguments_of_driver}
use Rattle.design_circuit.specs.Fits.{Fits, FitsDriver, StandsBefore}
use Rattle.design_circuit.specs.declared.stim.Levels.TheVariants.{Hold}
use Rattle.design_circuit.specs.Register.{pins_at, old_pins, updated, hold_at, has_uncertain_clock, had_uncertain_clock}
use Rattle.design_circuit.specs.Replay.{table_of}
use Rattle.design_circuit.specs.Rule.{rule, rule_of, arguments, as_values, held_or, known_or, remade}
use Rattle.design_circuit.specs.World.{decided}
use Rattle.design_circuit.proofs.LevelRule.{clock_before, clock_now, remade_idle}
use Rattle.design_circuit.proofs.TwoBack.{old_later}
use Rattle.design_circuit.proofs.OrderLemmas.{net_at_position}
use Rattle.design_circuit.proofs.Rules.{AgreeOn, rule_reads, arguments_below, spot, position_in, back_one, later_round}
use Rattle.design_circuit.proofs.Worlds.{decided_known}
use Rattle.law_model.specs.Assignment.{assigned, for_every}
use Rattle.law_model.specs.Class.{is_bit, flipped, is_local, is_free, is_never_unknown, is_carrier, are_equal, is_carried_on, keeps, passes_on, passes_on_of, before, class_in, classes, class_of}
use Rattle.law_model.specs.declared.class.ClassByNumber.{ClassByNumber}
use Rattle.law_model.specs.declared.class.ClassByNumber.TheVariants.{Local, Free, Carried, Line}
use Rattle.law_model.proofs.Assignments.{every_passes}
use Rattle.law_model.proofs.Classes.{ClassSays, class_says, class_rule, classes_prefix, bit_is, all_at}

-- Bits of a world up to and with a place, below which the certain places have their values.
pub record TrueWorld (j : Job) (c : ℕ → Value) (f w : ℕ → Bool) (place : ℕ) : Type 0 where
  pub within : place < places_of j
  pub world : (k : ℕ) → k ≤ place → w k ≡ decided (rule j c w k) (f k)
  pub exact : (k : ℕ) (bit : Bool) → k < place → c k ≡ bit_value bit → w k ≡ bit

pub overlaid : (v : Value) (b : Bool) → ((bit : Bool) → v ≡ bit_value bit → b ≡ bit) → decided v b ≡ b
overlaid Zero b exact = sym (exact false refl)
overlaid One b exact = sym (exact true refl)
overlaid X b exact = refl
overlaid Z b exact = refl

pub agree_below : (f g : ℕ → Bool) (n : ℕ) (places : List ℕ) → AllByRecursion (λ k. k < n) places
    → ((k : ℕ) → k < n → f k ≡ g k) → AgreeOn f g places
agree_below f g n [] below agree = tt
agree_below f g n (k ∷ places) below agree = (agree k below.0, agree_below f g n places below.1 agree)

-- What holds for every assignment of a place holds of a world.
pub world_every : (j : Job) → Fits j → (c : ℕ → Value) (f w : ℕ → Bool) (place : ℕ) (test : (ℕ → Bool) → Bool)
    → TrueWorld j c f w place → ((f g : ℕ → Bool) → AgreeOn f g (arguments j c place) → test f ≡ test g)
    → for_every j c place test ≡ true → test w ≡ true
world_every j fits c f w place test seen reads all =
    reads w (assigned c w) (agree_below w (assigned c w) place (arguments j c place)
    (arguments_below j fits c place seen.within)
    (λ k less. sym (overlaid (c k) (w k) (λ bit is. seen.exact k bit less is))))
    ∙ every_passes j c place test reads all w

pub decided_bit : (bit other : Bool) → decided (bit_value bit) other ≡ bit
decided_bit false other = refl
decided_bit true other = refl

-- In a world a place has the bit that its rule gives.
world_gives : (j : Job) (c : ℕ → Value) (f w : ℕ → Bool) (place : ℕ) (bit : Bool) → TrueWorld j c f w place
    → rule j c w place ≡ bit_value bit → w place ≡ bit
world_gives j c f w place bit seen gives = seen.world place (omega arith) ∙ ap (λ v. decided v (f place)) gives
    ∙ decided_bit bit (f place)

-- A local place has its bit in every world.
pub local_world : (j : Job) → Fits j → (c : ℕ → Value) (f w : ℕ → Bool) (place : ℕ) (bit : Bool)
    → TrueWorld j c f w place → is_local j c place bit ≡ true → w place ≡ bit
local_world j fits c f w place bit seen local =
    world_gives j c f w place bit seen (bit_is (rule j c w place) bit
    (world_every j fits c f w place (λ bits. is_bit (rule j c bits place) bit) seen
    (λ g h agree. ap (λ v. is_bit v bit) (rule_reads j c g h place agree)) local))

pub decided_unknown : (v : Value) (bit : Bool) → is_unknown v ≡ true → decided v bit ≡ bit
decided_unknown Zero bit unknown = cc
decided_unknown One bit unknown = cc
decided_unknown X bit unknown = refl
decided_unknown Z bit unknown = refl

-- A free place has the filling's bit in every world.
pub free_world : (j : Job) → Fits j → (c : ℕ → Value) (f w : ℕ → Bool) (place : ℕ) → TrueWorld j c f w place
    → is_free j c place ≡ true → w place ≡ f place
free_world j fits c f w place seen free =
    seen.world place (omega arith) ∙ decided_unknown (rule j c w place) (f place)
    (world_every j fits c f w place (λ bits. is_unknown (rule j c bits place)) seen
    (λ g h agree. ap is_unknown (rule_reads j c g h place agree)) free)

-- A place whose rule copies an argument place has its bit in every world, or its complement.
copied_world : (j : Job) → Fits j → (c : ℕ → Value) (f w : ℕ → Bool) (place from : ℕ) (inverted : Bool)
    → TrueWorld j c f w place → Contains (arguments j c place) from → is_carrier j c place from inverted ≡ true
    → w place ≡ flipped inverted (w from)
copied_world j fits c f w place from inverted seen argument carried =
    let parts = and_parts (is_unknown (c from))
    (for_every j c place (λ bits. is_bit (rule j c bits place) (flipped inverted (bits from)))) carried in
    let reads : (g h : ℕ → Bool) → AgreeOn g h (arguments j c place)
    → is_bit (rule j c g place) (flipped inverted (g from)) ≡ is_bit (rule j c h place)
    (flipped inverted (h from)) =
    λ g h agree. (rw (rule_reads j c g h place agree, all_at (λ k. g k ≡ h k) (arguments j c place) from agree argument)
    refl) in
    world_gives j c f w place (flipped inverted (w from)) seen
    (bit_is (rule j c w place) (flipped inverted (w from))
    (world_every j fits c f w place (λ bits. is_bit (rule j c bits place) (flipped inverted (bits from))) seen reads
    parts.1))

-- Where a net's place stands.
pub step_at : (j : Job) → Fits j → (step net : ℕ) → net < j.width → step_of j (at j step net) ≡ step
step_at j fits step net within = div-mul-add step j.width (position_of j.order net) (position_in j fits net within)

pub net_at : (j : Job) → Fits j → (step net : ℕ) → net < j.width → net_of j (at j step net) ≡ net
net_at j fits step net within =
    let all = fits.all in
    let found = fits.ordering.each net (omega arith) in
    rw (mod-mul-add step j.width (position_of j.order net) (position_in j fits net within))
    (net_at_position j.order net found.0 found.1 found.2)

-- Equal known values.
same_bits : (x y : Value) (a b : Bool) → are_equal x y ≡ true → ((bit : Bool) → x ≡ bit_value bit → a ≡ bit)
    → ((bit : Bool) → y ≡ bit_value bit → b ≡ bit) → a ≡ b
same_bits Zero Zero a b equal left right = left false refl ∙ sym (right false refl)
same_bits One One a b equal left right = left true refl ∙ sym (right true refl)
same_bits Zero One a b equal left right = cc
same_bits Zero X a b equal left right = cc
same_bits Zero Z a b equal left right = cc
same_bits One Zero a b equal left right = cc
same_bits One X a b equal left right = cc
same_bits One Z a b equal left right = cc
same_bits X y a b equal left right = cc
same_bits Z y a b equal left right = cc

as_it_is : (inverted : Bool) → not inverted ≡ true → inverted ≡ false
as_it_is false h = refl
as_it_is true h = cc

carried_on : (class : ClassByNumber) (before : ℕ) → is_carried_on class before ≡ true → class ≡ Carried before false
carried_on (Local bit) before on = cc
carried_on Free before on = cc
carried_on (Carried from inverted) before on =
    let parts = and_parts (from == before) (not inverted) on in
    let same : from ≡ before = eqb-true from before parts.0 in
    rw (same, as_it_is inverted parts.1) refl
carried_on Line before on = cc

-- The classes before a place, and that the carry law holds of each.
pub record Carries (w : ℕ → Bool) (class : ℕ → ClassByNumber) (place : ℕ) : Type 0 where
  pub law : (k from : ℕ) (inverted : Bool) → k < place → class k ≡ Carried from inverted
      → w k ≡ flipped inverted (w from)

pub later : (step : ℕ) → not (step == 0) ≡ true → (step == 0) ≡ false
later step h = turned (step == 0) h
  where
    turned : (b : Bool) → not b ≡ true → b ≡ false
    turned false h = refl
    turned true h = cc

-- A net that keeps at a step has in the world the bit that it had one step before.
keeps_world : (j : Job) → Fits j → (c : ℕ → Value) (f w : ℕ → Bool) (class : ℕ → ClassByNumber) (place step net : ℕ)
    → TrueWorld j c f w place → Carries w class place → net < j.width → at j step net < place
    → keeps j c class step net ≡ true → w (at j step net) ≡ w (at j (step - 1) net)
keeps_world j fits c f w class place step net seen carries within earlier kept =
    let parts = and_parts (not (step == 0)) (are_equal (c (at j step net)) (c (at j (step - 1) net)) || is_carried_on
    (class (at j step net)) (at j (step - 1) net)) kept in
    let before_it : at j (step - 1) net < at j step net = back_one j.width step (position_of j.order net)
    (position_of j.order net) (later step parts.0) (position_in j fits net within) in
    let equal : are_equal (c (at j step net)) (c (at j (step - 1) net)) ≡ true
    → w (at j step net) ≡ w (at j (step - 1) net) =
    λ h. same_bits (c (at j step net)) (c (at j (step - 1) net)) (w (at j step net)) (w (at j (step - 1) net)) h
    (λ bit is. seen.exact (at j step net) bit earlier is)
    (λ bit is. seen.exact (at j (step - 1) net) bit (omega (arith, before_it, earlier)) is) in
    let on : is_carried_on (class (at j step net)) (at j (step - 1) net) ≡ true
    → w (at j step net) ≡ w (at j (step - 1) net) =
    λ h. carries.law (at j step net) (at j (step - 1) net) false earlier
    (carried_on (class (at j step net)) (at j (step - 1) net) h) in
    ⊎_elim equal on (or_cases (are_equal (c (at j step net)) (c (at j (step - 1) net)))
    (is_carried_on (class (at j step net)) (at j (step - 1) net)) parts.1)

-- Pins that all keep at a step have there the values that they had one step before.
pins_keep : (j : Job) → Fits j → (c : ℕ → Value) (f w : ℕ → Bool) (class : ℕ → ClassByNumber) (place step : ℕ)
    (pins : List Pin) → TrueWorld j c f w place → Carries w class place
    → AllByRecursion (λ net. (net < j.width) × (at j step net < place)) (net_pins pins)
    → list_all (keeps j c class step) (net_pins pins) ≡ true
    → pins_at j (as_values w) step pins ≡ pins_at j (as_values w) (step - 1) pins
pins_keep j fits c f w class place step [] seen carries earlier all = refl
pins_keep j fits c f w class place step (Net net ∷ pins) seen carries earlier all =
    let parts = and_parts (keeps j c class step net) (list_all (keeps j c class step) (net_pins pins)) all in
    rw (
      keeps_world j fits c f w class place step net seen carries earlier.0.0 earlier.0.1 parts.0,
      pins_keep j fits c f
          w class place step pins seen carries earlier.1 parts.1,
    ) refl
pins_keep j fits c f w class place step (Bit bit ∷ pins) seen carries earlier all =
    rw (pins_keep j fits c f w class place step pins seen carries earlier all) refl
pins_keep j fits c f w class place step (Dead ∷ pins) seen carries earlier all =
    rw (pins_keep j fits c f w class place step pins seen carries earlier all) refl

pub nets_along : (P Q : ℕ → Type 0) (xs : List ℕ) → ((k : ℕ) → P k → Q k) → AllByRecursion P xs → AllByRecursion Q xs
nets_along P Q [] more all = tt
nets_along P Q (x ∷ xs) more all = (more x all.0, nets_along P Q xs more all.1)

gives_at : (j : Job) (c : ℕ → Value) (f w : ℕ → Bool) (place k : ℕ) (bit : Bool) → TrueWorld j c f w place → k ≤ place
    → rule j c w k ≡ bit_value bit → w k ≡ bit
gives_at j c f w place k bit seen up gives = seen.world k up ∙ ap (λ v. decided v (f k)) gives ∙ decided_bit bit (f k)

rule_here : (j : Job) (c : ℕ → Value) (b : ℕ → Bool) (place : ℕ) (driver : Driver) → j.driver (net_of j place) ≡ driver
    → rule j c b place ≡ rule_of j c b (step_of j place) (net_of j place) driver
unfolding rule
rule_here j c b place driver is = ap (rule_of j c b (step_of j place) (net_of j place)) is

rule_at : (j : Job) → Fits j → (c : ℕ → Value) (b : ℕ → Bool) (step net : ℕ) (driver : Driver) → net < j.width
    → j.driver net ≡ driver → rule j c b (at j step net) ≡ rule_of j c b step net driver
unfolding rule
rule_at j fits c b step net driver within is =
    let s = step_at j fits step net within in
    let n = net_at j fits step net within in
    ap (λ k. rule_of j c b k (net_of j (at j step net)) (j.driver (net_of j (at j step net)))) s
    ∙ ap (λ k. rule_of j c b step k (j.driver k)) n ∙ ap (rule_of j c b step net) is

pub known_unless : (v : Value) → not (is_unknown v) ≡ true → IsKnown v
known_unless Zero h = tt
known_unless One h = tt
known_unless X h = cc
known_unless Z h = cc

other_known : (recorded other : Value) → is_unknown recorded ≡ true → known_or recorded other ≡ other
other_known Zero other unknown = cc
other_known One other unknown = cc
other_known X other unknown = refl
other_known Z other unknown = refl

at_later_round : (first : Bool) (bit : Bool) → not first ≡ true → (if first then X else bit_value bit) ≡ bit_value bit
at_later_round true bit h = cc
at_later_round false bit h = refl

pub later_in_round : (step rounds : ℕ) → not (step % rounds == 0) ≡ true → (step == 0) ≡ false
later_in_round step rounds h = later_round step rounds (later_is (step % rounds) h)
  where
    later_is : (k : ℕ) → not (k == 0) ≡ true → (k == 0) ≡ false
    later_is k h = later k h

pub back_of : (j : Job) → Fits j → (place : ℕ) → place < places_of j → (step_of j place == 0) ≡ false
    → before j place < place
back_of j fits place within behind =
    let s = spot j fits place within in
    let back = back_one j.width (step_of j place) (position_of j.order (net_of j place)) (place % j.width) behind
    (position_in j fits (net_of j place) s.net) in
    let whole = s.whole in
    omega (arith, back, whole)

pub behind_one : (step : ℕ) → 1 < step → ((step == 0) ≡ false) × ((step == 1) ≡ false) × (step - 1 - 1 ≡ step - 2)
behind_one step h = (grind (arith, common_steps), grind (arith, common_steps), omega arith)

passes_world_of : (j : Job) → Fits j → (c : ℕ → Value) (f w : ℕ → Bool) (class : ℕ → ClassByNumber) (place : ℕ)
    (driver : Driver) → TrueWorld j c f w place → Carries w class place → j.driver (net_of j place) ≡ driver
    → FitsDriver j.udps j.width driver → AllByRecursion (StandsBefore j (place % j.width)) (arguments_of_driver driver)
    → passes_on_of j c class place (step_of j place) (net_of j place) driver ≡ true → w place ≡ w (before j place)
passes_world_of j fits c f w class place Input seen carries is driver stands passes =
    let parts = and_parts (not (step_of j place % j.rounds == 0))
    (is_unknown (j.recorded (step_of j place / j.rounds) (net_of j place))) passes in
    gives_at j c f w place place (w (before j place)) seen (omega arith)
    (rule_here j c w place Input is ∙ other_known (j.recorded (step_of j place / j.rounds) (net_of j place)) _
    parts.1 ∙ at_later_round (step_of j place % j.rounds == 0) (w (before j place)) parts.0)
passes_world_of j fits c f w class place Undriven seen carries is driver stands passes =
    gives_at j c f w place place (w (before j place)) seen (omega arith)
    (rule_here j c w place Undriven is ∙ at_later_round (step_of j place % j.rounds == 0) (w (before j place))
    passes)
passes_world_of j fits c f w class place (Constant bit) seen carries is driver stands passes = cc
passes_world_of j fits c f w class place (Copy argument) seen carries is driver stands passes =
    let s = spot j fits place seen.within in
    let whole = s.whole in
    let step = step_of j place in
    let net = net_of j place in
    let low = stands.0.before in
    let behind : (step == 0) ≡ false = later step (and_parts (not (step == 0)) _ passes).0 in
    let kept : w (at j step argument) ≡ w (at j (step - 1) argument) = keeps_world j fits c f w class place step
    argument seen carries stands.0.within (omega (arith, low, whole)) passes in
    let back : before j place < place = back_of j fits place seen.within behind in
    let here : w place ≡ w (at j step argument) = gives_at j c f w place place (w (at j step argument)) seen
    (omega arith) (rule_here j c w place (Copy argument) is) in
    let there : w (before j place) ≡ w (at j (step - 1) argument) = gives_at j c f w place (before j place)
    (w (at j (step - 1) argument)) seen (omega (arith, back))
    (rule_at j fits c w (step - 1) net (Copy argument) s.net is) in
    here ∙ kept ∙ sym there
passes_world_of j fits c f w class place (Cell table pins) seen carries is driver stands passes =
    let s = spot j fits place seen.within in
    let whole = s.whole in
    let step = step_of j place in
    let net = net_of j place in
    let parts = and_parts (not (step == 0) && list_all (keeps j c class step) (net_pins pins))
    (is_never_unknown j c place) passes in
    let first = and_parts (not (step == 0)) (list_all (keeps j c class step) (net_pins pins)) parts.0 in
    let behind : (step == 0) ≡ false = later step first.0 in
    let back : before j place < place = back_of j fits place seen.within behind in
    let earlier : AllByRecursion (λ net. (net < j.width) × (at j step net < place)) (net_pins pins) = nets_along _ _
    (net_pins pins) (λ k b. (b.within, (let low = b.before in omega (arith, low, whole)))) stands in
    let same : pins_at j (as_values w) step pins ≡ pins_at j (as_values w) (step - 1) pins = pins_keep j fits c f w
    class place step pins seen carries earlier first.1 in
    let rules : rule j c w place ≡ rule j c w (before j place) = rule_here j c w place (Cell table pins) is
    ∙ ap (table_of j.udps table) same ∙ sym (rule_at j fits c w (step - 1) net (Cell table pins) s.net is) in
    let known : IsKnown (rule j c w place) = known_unless (rule j c w place)
    (world_every j fits c f w place (λ bits. not (is_unknown (rule j c bits place))) seen
    (λ g h agree. ap (λ v. not (is_unknown v)) (rule_reads j c g h place agree)) parts.1) in
    seen.world place (omega arith) ∙ decided_known (rule j c w place) (f place) (f (before j place)) known
    ∙ ap (λ v. decided v (f (before j place))) rules ∙ sym (seen.world (before j place) (omega (arith, back)))
passes_world_of j fits c f w class place (Register latching) seen carries is driver stands passes =
    let s = spot j fits place seen.within in
    let whole = s.whole in
    let step = step_of j place in
    let net = net_of j place in
    let pins = latching.pins in
    let parts = and_parts (nat_lt 1 step && not (had_uncertain_clock j c step latching))
    (list_all (keeps j c class (step - 1)) (net_pins pins)) passes in
    let first = and_parts (nat_lt 1 step) (not (had_uncertain_clock j c step latching)) parts.0 in
    let behind = behind_one step (ltb-true 1 step first.0) in
    let never : had_uncertain_clock j c step latching ≡ false = off (had_uncertain_clock j c step latching) first.1 in
    let clocked : has_uncertain_clock j c step latching ≡ false = clock_now j c step latching never in
    let earlier : AllByRecursion (λ net. (net < j.width) × (at j (step - 1) net < place)) (net_pins pins) = nets_along _
    _ (net_pins pins) (λ k low. (
      low,
      (let back = back_one j.width step (position_of j.order k) (place % j.width)
          behind.0 (position_in j fits k low) in omega (arith, back, whole)),
    )) driver.nets in
    let same : pins_at j (as_values w) (step - 1) pins ≡ pins_at j (as_values w) (step - 1 - 1) pins = pins_keep j fits
    c f w class place (step - 1) pins seen carries earlier parts.1 in
    let old : old_pins j (as_values w) step pins ≡ pins_at j (as_values w) (step - 1) pins = old_later
    j (as_values w) step pins (ltb-true 1 step first.0) ∙ ap (λ k. pins_at j (as_values w) k pins) (sym behind.2) ∙ sym same in
    let back = back_of j fits place seen.within behind.0 in
    let held : j.levels ≡ Hold → w (before j place) ≡ decided (held_or Hold (hold_at j (as_values w) step latching)
    (updated j (as_values w) (bit_value (w (at j (step - 1 - 1) net))) (step - 1) latching)) (f (before j place)) =
    λ holds. (seen.world (before j place) (omega (arith, back)) ∙ ap (λ v. decided v (f (before j place)))
    (rule_at j fits c w (step - 1) net (Register latching) s.net is
    ∙ unless (step - 1 == 0) (j.start net) _ (later_before step (ltb-true 1 step first.0))
    ∙ unless (has_uncertain_clock j c (step - 1) latching) _ _ (clock_before j c step latching holds never)
    ∙ ap (λ l. held_or l (hold_at j (as_values w) (step - 1) latching) (updated j (as_values w)
    (bit_value (w (at j (step - 1 - 1) net))) (step - 1) latching)) holds
    ∙ ap (λ values. held_or Hold (hold (primitive_of j.udps latching.udp) values) (updated j (as_values w)
    (bit_value (w (at j (step - 1 - 1) net))) (step - 1) latching)) (sym same))) in
    let idle : remade j (as_values w) (bit_value (w (before j place))) step latching ≡ bit_value (w (before j place)) =
    remade_idle j (as_values w) (w (before j place)) (f (before j place)) _ step latching old held in
    gives_at j c f w place place (w (before j place)) seen (omega arith)
    (rule_here j c w place (Register latching) is ∙ unless (step == 0) (j.start net) _ behind.0
    ∙ unless (has_uncertain_clock j c step latching) _ _ clocked ∙ idle)
  where
    later_before : (step : ℕ) → 1 < step → (step - 1 == 0) ≡ false
    later_before step h = ne_eqb (step - 1) 0 (λ e. omega (arith, e, h))

    off : (b : Bool) → not b ≡ true → b ≡ false
    off false h = refl
    off true h = cc

    unless : {A : Type 0} (b : Bool) (x y : A) → b ≡ false → (if b then x else y) ≡ y
    unless true x y h = cc
    unless false x y h = refl

-- A place that passes its net's bit on has in the world the bit of its net one step before.
pub passes_world : (j : Job) → Fits j → (c : ℕ → Value) (f w : ℕ → Bool) (class : ℕ → ClassByNumber) (place : ℕ)
    → TrueWorld j c f w place → Carries w class place → passes_on j c class place ≡ true → w place ≡ w (before j place)
passes_world j fits c f w class place seen carries passes =
    let s = spot j fits place seen.within in
    passes_world_of j fits c f w class place (j.driver (net_of j place)) seen carries refl s.driver s.before passes

pub shorter : (j : Job) (c : ℕ → Value) (f w : ℕ → Bool) (k place : ℕ) → k < place → TrueWorld j c f w place
    → TrueWorld j c f w k
shorter j c f w k place less seen = (let within = seen.within in record {
  within = omega (arith, within, less);
  world = λ i up. seen.world i (omega arith);
  exact = λ i bit low. seen.exact i bit (omega arith);
})

carry_one : (j : Job) → Fits j → (c : ℕ → Value) (f w : ℕ → Bool) (class : ℕ → ClassByNumber) (place from : ℕ)
    (inverted : Bool) → TrueWorld j c f w place → Carries w class place
    → ClassSays j c class place (Carried from inverted) → w place ≡ flipped inverted (w from)
carry_one j fits c f w class place from inverted seen carries says =
    ⊎_elim (λ h. (passes_world j fits c f w class place seen carries h.0 ∙ ap w (sym h.1) ∙ (rw h.2 refl)))
    (λ h. copied_world j fits c f w place from inverted seen h.0 h.1) says

carry_below : (j : Job) → Fits j → (c : ℕ → Value) (f w : ℕ → Bool) (n place from : ℕ) (inverted : Bool) → place < n
    → TrueWorld j c f w place → class_of j c place ≡ Carried from inverted → w place ≡ flipped inverted (w from)
carry_below j fits c f w zero place from inverted below seen is = absurd (omega arith)
carry_below j fits c f w (suc n) place from inverted below seen is =
    let class : ℕ → ClassByNumber = class_in (classes j c place) in
    let law : (k from : ℕ) (inverted : Bool) → k < place → class k ≡ Carried from inverted
    → w k ≡ flipped inverted (w from) =
    λ k source flip less same. carry_below j fits c f w n k source flip (omega arith)
    (shorter j c f w k place less seen) (sym (classes_prefix j c place k less) ∙ same) in
    let says : ClassSays j c class place (Carried from inverted) = subst (ClassSays j c class place)
    (sym (class_rule j c place) ∙ is) (class_says j c class place) in
    carry_one j fits c f w class place from inverted seen (record { law = law }) says

-- In every world whose certain places have their values, a carried place has the bit of the place that it is carried
-- from, or its complement where the class says inverted.
pub carry : (j : Job) → Fits j → (c : ℕ → Value) (f w : ℕ → Bool) (place from : ℕ) (inverted : Bool)
    → TrueWorld j c f w place → class_of j c place ≡ Carried from inverted → w place ≡ flipped inverted (w from)
carry j fits c f w place from inverted seen is = carry_below j fits c f w (suc place) place from inverted (omega arith)
    seen is
