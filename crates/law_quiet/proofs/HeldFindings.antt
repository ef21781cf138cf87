-- What is found at a quiet register where levels hold: a bit that its rule gives for every assignment is the one that its
-- net's place a step before has. Its pins hold it there as they hold it here, and where they don't it keeps what it has.
use Rattle.std.proofs.Common.{◌≡◌, ◌⊎◌, ℕ, suc, ◌+◌, ◌-◌, ◌*◌, ◌<◌, ◌≤◌, ◌==◌, ◌&&◌, ◌||◌, not, Bool, true, false}
use Rattle.std.proofs.Common.{List, [], ◌∷◌, Contains, refl, sym, ap, ◌∙◌, arith, subst, inl, inr, ⊎_elim, if◌then◌else◌}
use Rattle.std.specs.Prelude.{nat_lt}
use Rattle.std.specs.List.{AllByRecursion}
use Rattle.std.proofs.lemmas.Bool.{and_parts, eq-eqb, eqb-true, lt-ltb, ltb-true, ne_eqb}
use Rattle.design_cell.specs.declared.value.Value.{Value}
use Rattle.design_cell.specs.declared.value.Value.TheVariants.{Zero, One, X, Z}
use Rattle.design_cell.specs.Hold.{hold}
use Rattle.design_cell.specs.Next.{next}
use Rattle.design_cell.specs.Value.{bit_value, is_unknown}
use Rattle.design_cell.proofs.Nexts.{next_idle}
use Rattle.design_circuit.specs.declared.design.Driver.TheVariants.{Register}
use Rattle.design_circuit.specs.declared.design.Latching.{Latching}
use Rattle.design_circuit.specs.declared.design.Pin.{Pin}
use Rattle.design_circuit.specs.declared.design.Pin.TheVariants.{Net, Bit, Dead}
use Rattle.design_circuit.specs.declared.stim.Levels.TheVariants.{Hold}
use Rattle.design_circuit.specs.Fits.{Fits}
use Rattle.design_circuit.specs.Job.{Job, at, net_of, places_of, primitive_of, step_of}
use Rattle.design_circuit.specs.Order.{net_pins, position_of}
use Rattle.design_circuit.specs.Register.{had_uncertain_clock, has_uncertain_clock, hold_at, pins_at, updated}
use Rattle.design_circuit.specs.Rule.{arguments, as_values, held_or, known_or, rule}
use Rattle.design_circuit.specs.World.{decided}
use Rattle.design_circuit.proofs.LevelRule.{clock_before, clock_now}
use Rattle.design_circuit.proofs.Rules.{position_in, rule_reads, spot}
use Rattle.design_circuit.proofs.TwoBack.{old_later}
use Rattle.law_model.specs.Assignment.{assigned, for_every}
use Rattle.law_model.specs.Class.{are_equal, before, class_of, flipped, is_bit, is_carried_on, is_carrier, is_local}
use Rattle.law_model.specs.Class.{passes_on, passes_on_of}
use Rattle.law_model.specs.declared.class.ClassByNumber.TheVariants.{Carried}
use Rattle.law_model.proofs.Assignments.{every_passes}
use Rattle.law_model.proofs.CarryLaw.{back_of, decided_unknown, net_at, step_at}
use Rattle.law_model.proofs.ClassFromClasses.{class_is}
use Rattle.law_model.proofs.Classes.{ClassSays, all_at, behind, bit_is, class_says, in_front}
use Rattle.wave_class.specs.Facts.{AgreeBefore, AgreesWith}
use Rattle.wave_class.specs.Keeps.{SeesTheSame, net_keeps, nets_keep}
use Rattle.wave_class.proofs.MovedRules.{SameAt, as_it_is, values_moved}
use Rattle.wave_class.proofs.SteadyClasses.{carried_on, register_kinds}
use Rattle.wave_class.proofs.WiredPlaces.{is_spot, spot_here}
use Rattle.law_quiet.proofs.Findings.{Finding, free_gives, gives_local, local_gives, local_value, rule_before}
use Rattle.law_quiet.proofs.Findings.{rule_here}
use Rattle.law_quiet.proofs.QuietTests.{one_passes}

-- One bit for all places that aren't certain.
pub same_bits : (j : Job) (c : ℕ → Value) (bit : Bool) (s t : ℕ) (nets : List ℕ) → SameAt j c s t nets
    → SameAt j (as_values (assigned c (λ k. bit))) s t nets
same_bits j c bit s t [] same = tt
same_bits j c bit s t (net ∷ nets) same =
    (ap (λ v. bit_value (decided v bit)) same.0, same_bits j c bit s t nets same.1)

unless : (b : Bool) (x y : Value) → b ≡ false → (if b then x else y) ≡ y
unless true x y h = cc
unless false x y h = refl

-- ---- the rule

-- Where the values of its pins stay, it keeps what it kept.
kept_still : (j : Job) (values : ℕ → Value) (kept : Value) (step : ℕ) (latching : Latching) → 1 < step
    → pins_at j values (step - 2) latching.pins ≡ pins_at j values (step - 1) latching.pins
    → updated j values kept step latching ≡ kept
kept_still j values kept step latching later same =
    ap (λ old. next (primitive_of j.udps latching.udp) latching.clocks old (pins_at j values (step - 1) latching.pins)
    kept) (old_later j values step latching.pins later ∙ same)
    ∙ next_idle (primitive_of j.udps latching.udp) latching.clocks (pins_at j values (step - 1) latching.pins) kept

-- With certain clocks it has the bit at which its pins hold it, and else its own.
pub here_gives : (j : Job) (c : ℕ → Value) (place : ℕ) (latching : Latching) (bits : ℕ → Bool) → j.levels ≡ Hold
    → j.driver (net_of j place) ≡ Register latching → 1 < step_of j place → (step_of j place == 0) ≡ false
    → has_uncertain_clock j c (step_of j place) latching ≡ false
    → pins_at j (as_values (assigned c bits)) (step_of j place - 2) latching.pins
    ≡ pins_at j (as_values (assigned c bits)) (step_of j place - 1) latching.pins
    → rule j c (assigned c bits) place ≡ known_or (hold_at j (as_values (assigned c bits)) (step_of j place) latching)
    (bit_value (assigned c bits (before j place)))
here_gives j c place latching bits holds driver later behind certain_is same =
    let step = step_of j place in
    let values = as_values (assigned c bits) in
    let own = bit_value (assigned c bits (before j place)) in
    rule_here j c (assigned c bits) place (Register latching) driver
    ∙ unless (step == 0) _ _ behind ∙ unless (has_uncertain_clock j c step latching) _ _ certain_is
    ∙ ap (λ l. held_or l (hold_at j values step latching) (updated j values own step latching)) holds
    ∙ ap (known_or (hold_at j values step latching)) (kept_still j values own step latching later same)

-- So a step before, whatever it keeps.
before_gives : (j : Job) → Fits j → (c : ℕ → Value) (place : ℕ) (latching : Latching) (bits : ℕ → Bool) (bit : Bool)
    → place < places_of j → j.levels ≡ Hold → j.driver (net_of j place) ≡ Register latching
    → (step_of j place - 1 == 0) ≡ false → has_uncertain_clock j c (step_of j place - 1) latching ≡ false
    → hold_at j (as_values (assigned c bits)) (step_of j place - 1) latching ≡ bit_value bit
    → rule j c (assigned c bits) (before j place) ≡ bit_value bit
before_gives j fits c place latching bits bit within holds driver behind certain_is held =
    let step = step_of j place - 1 in
    let values = as_values (assigned c bits) in
    rule_before j fits c (assigned c bits) place (Register latching) within driver
    ∙ unless (step == 0) _ _ behind ∙ unless (has_uncertain_clock j c step latching) _ _ certain_is
    ∙ ap (λ l. held_or l (hold_at j values step latching) (updated j values
    (bit_value (assigned c bits (at j (step - 1) (net_of j place)))) step latching)) holds
    ∙ stands (hold_at j values step latching) _ bit held
  where
    stands : (h other : Value) (bit : Bool) → h ≡ bit_value bit → known_or h other ≡ bit_value bit
    stands h other false is = rw is refl
    stands h other true is = rw is refl

-- ---- an assignment with the same bits at the pins twice, and a chosen bit at a place of its own

abbrev again : Job → ℕ → ℕ → Bool → (ℕ → Bool) → ℕ → Bool
again j step own bit bits k =
    if k == own then bit else if nat_lt k (step * j.width) then bits k else bits (k - j.width)

first_of : (a b : Bool) (x y z : Bool) → a ≡ true → (if a then x else if b then y else z) ≡ x
first_of a b x y z a_is = rw a_is refl

second_of : (a b : Bool) (x y z : Bool) → a ≡ false → b ≡ true → (if a then x else if b then y else z) ≡ y
second_of a b x y z a_is b_is = rw (a_is, b_is) refl

third_of : (a b : Bool) (x y z : Bool) → a ≡ false → b ≡ false → (if a then x else if b then y else z) ≡ z
third_of a b x y z a_is b_is = rw (a_is, b_is) refl

not_less : (m n : ℕ) → n ≤ m → nat_lt m n ≡ false
not_less m n up = no (nat_lt m n) (λ h. (let less = ltb-true m n h in omega (arith, less, up)))
  where
    no : (b : Bool) → (b ≡ true → ⊥) → b ≡ false
    no false none = refl
    no true none = absurd (none refl)

less_one : (w s t p : ℕ) → s ≡ suc t → s * w + p - w ≡ t * w + p
less_one w s t p next = rw next (omega arith)

row_less : (w s t p : ℕ) → s ≡ suc t → p < w → t * w + p < s * w
row_less w s t p next low = rw next (omega (arith, low))

own_bit : (j : Job) (step own : ℕ) (bit : Bool) (bits : ℕ → Bool) → again j step own bit bits own ≡ bit
own_bit j step own bit bits =
    first_of (own == own) (nat_lt own (step * j.width)) bit (bits own) (bits (own - j.width)) (eq-eqb own own refl)

still_bit : (j : Job) → Fits j → (s t own net : ℕ) (bit : Bool) (bits : ℕ → Bool) → s ≡ suc t → s * j.width ≤ own
    → net < j.width → again j s own bit bits (at j t net) ≡ bits (at j t net)
still_bit j fits s t own net bit bits next up low =
    let less = row_less j.width s t (position_of j.order net) next (position_in j fits net low) in
    second_of (at j t net == own) (nat_lt (at j t net) (s * j.width)) bit (bits (at j t net))
    (bits (at j t net - j.width)) (ne_eqb (at j t net) own (λ e. omega (arith, e, less, up)))
    (lt-ltb (at j t net) (s * j.width) less)

moved_bit : (j : Job) (s t own net : ℕ) (bit : Bool) (bits : ℕ → Bool) → s ≡ suc t
    → (at j s net == own) ≡ false → again j s own bit bits (at j s net) ≡ bits (at j t net)
moved_bit j s t own net bit bits next other =
    third_of (at j s net == own) (nat_lt (at j s net) (s * j.width)) bit (bits (at j s net))
    (bits (at j s net - j.width)) other (not_less (at j s net) (s * j.width) (omega arith))
    ∙ ap bits (less_one j.width s t (position_of j.order net) next)

-- A net's place isn't that of its own, where it isn't certain.
abbrev IsOther : Job → (ℕ → Value) → ℕ → ℕ → ℕ → Type 0
IsOther j c s own net = is_unknown (c (at j s net)) ≡ true → (at j s net == own) ≡ false

by_unknown : (v : Value) (a b : Bool) → (is_unknown v ≡ true → a ≡ b) → decided v a ≡ decided v b
by_unknown Zero a b same = refl
by_unknown One a b same = refl
by_unknown X a b same = same refl
by_unknown Z a b same = same refl

pins_by : (j : Job) (f g : ℕ → Value) (s t : ℕ) (pins : List Pin)
    → AllByRecursion (λ net. f (at j s net) ≡ g (at j t net)) (net_pins pins) → pins_at j f s pins ≡ pins_at j g t pins
pins_by j f g s t [] same = refl
pins_by j f g s t (Net net ∷ pins) same = rw (same.0, pins_by j f g s t pins same.1) refl
pins_by j f g s t (Bit bit ∷ pins) same = rw (pins_by j f g s t pins same) refl
pins_by j f g s t (Dead ∷ pins) same = rw (pins_by j f g s t pins same) refl

still_nets : (j : Job) → Fits j → (c : ℕ → Value) (s t own : ℕ) (bit : Bool) (bits : ℕ → Bool) (nets : List ℕ)
    → s ≡ suc t → s * j.width ≤ own → AllByRecursion (λ net. net < j.width) nets
    → AllByRecursion (λ net. as_values (assigned c (again j s own bit bits)) (at j t net)
    ≡ as_values (assigned c bits) (at j t net)) nets
still_nets j fits c s t own bit bits [] next up low = tt
still_nets j fits c s t own bit bits (net ∷ nets) next up low = (
  ap (λ b. bit_value (decided (c (at j t net)) b)) (still_bit j fits s t own net bit bits next up low.0),
  still_nets j fits c s t own bit bits nets next up low.1,
)

moved_nets : (j : Job) (c : ℕ → Value) (s t own : ℕ) (bit : Bool) (bits : ℕ → Bool) (nets : List ℕ)
    → s ≡ suc t → SameAt j c s t nets → AllByRecursion (IsOther j c s own) nets
    → AllByRecursion (λ net. as_values (assigned c (again j s own bit bits)) (at j s net)
    ≡ as_values (assigned c bits) (at j t net)) nets
moved_nets j c s t own bit bits [] next same other = tt
moved_nets j c s t own bit bits (net ∷ nets) next same other = (
  ap bit_value (by_unknown (c (at j s net)) (again j s own bit bits (at j s net)) (bits (at j t net))
      (λ unknown. moved_bit j s t own net bit bits next (other.0 unknown))
      ∙ ap (λ v. decided v (bits (at j t net))) same.0),
  moved_nets j c s t own bit bits nets next same.1 other.1,
)

-- ---- the bit

must_hold : (h : Value) (bit : Bool) → known_or h (bit_value (not bit)) ≡ bit_value bit → h ≡ bit_value bit
must_hold Zero bit is = is
must_hold One bit is = is
must_hold X false is = cc
must_hold X true is = cc
must_hold Z false is = cc
must_hold Z true is = cc

-- Where the rule gives one bit for every assignment, and its own place a step before may have the other one, its pins
-- hold it at that bit; so they did a step before.
each_before : (j : Job) → Fits j → (c : ℕ → Value) (place t : ℕ) (latching : Latching) (bit : Bool) (bits : ℕ → Bool)
    → place < places_of j → 1 < step_of j place → step_of j place - 1 ≡ suc t → j.levels ≡ Hold
    → j.driver (net_of j place) ≡ Register latching → (step_of j place == 0) ≡ false
    → (step_of j place - 1 == 0) ≡ false → has_uncertain_clock j c (step_of j place) latching ≡ false
    → has_uncertain_clock j c (step_of j place - 1) latching ≡ false
    → AllByRecursion (λ net. net < j.width) (net_pins latching.pins)
    → SameAt j c (step_of j place - 1) t (net_pins latching.pins)
    → AllByRecursion (IsOther j c (step_of j place - 1) (before j place)) (net_pins latching.pins)
    → decided (c (before j place)) (not bit) ≡ not bit → is_local j c place bit ≡ true
    → rule j c (assigned c bits) (before j place) ≡ bit_value bit
each_before j fits c place t latching bit bits within later next holds driver behind behind_two here early low same other
    free local =
    let step = step_of j place in
    let s = step - 1 in
    let own = before j place in
    let chosen = again j s own (not bit) bits in
    let up : s * j.width ≤ own = omega arith in
    let two : step - 2 ≡ t = omega (arith, next, later) in
    let three : s - 1 ≡ t = omega (arith, next) in
    let moved : pins_at j (as_values (assigned c chosen)) s latching.pins
    ≡ pins_at j (as_values (assigned c bits)) t latching.pins =
    pins_by j (as_values (assigned c chosen)) (as_values (assigned c bits)) s t latching.pins
    (moved_nets j c s t own (not bit) bits (net_pins latching.pins) next same other) in
    let still : pins_at j (as_values (assigned c chosen)) t latching.pins
    ≡ pins_at j (as_values (assigned c bits)) t latching.pins =
    pins_by j (as_values (assigned c chosen)) (as_values (assigned c bits)) t t latching.pins
    (still_nets j fits c s t own (not bit) bits (net_pins latching.pins) next up low) in
    let there : pins_at j (as_values (assigned c chosen)) (step - 2) latching.pins
    ≡ pins_at j (as_values (assigned c chosen)) s latching.pins =
    ap (λ k. pins_at j (as_values (assigned c chosen)) k latching.pins) two ∙ still ∙ sym moved in
    let own_is : assigned c chosen own ≡ not bit =
    ap (decided (c own)) (own_bit j s own (not bit) bits) ∙ free in
    let gives : known_or (hold_at j (as_values (assigned c chosen)) step latching) (bit_value (not bit))
    ≡ bit_value bit =
    ap (λ b. known_or (hold_at j (as_values (assigned c chosen)) step latching) (bit_value b)) (sym own_is)
    ∙ sym (here_gives j c place latching chosen holds driver later behind here there)
    ∙ local_gives j c place bit chosen local in
    before_gives j fits c place latching bits bit within holds driver behind_two early
    (ap (λ k. hold (primitive_of j.udps latching.udp) (pins_at j (as_values (assigned c bits)) k latching.pins)) three
    ∙ ap (hold (primitive_of j.udps latching.udp)) (sym moved)
    ∙ must_hold (hold_at j (as_values (assigned c chosen)) step latching) bit gives)

own_unread : (j : Job) → Fits j → (c : ℕ → Value) (place t : ℕ) (latching : Latching) (bit : Bool)
    → place < places_of j → 1 < step_of j place → step_of j place - 1 ≡ suc t → j.levels ≡ Hold
    → j.driver (net_of j place) ≡ Register latching → (step_of j place == 0) ≡ false
    → (step_of j place - 1 == 0) ≡ false → has_uncertain_clock j c (step_of j place) latching ≡ false
    → has_uncertain_clock j c (step_of j place - 1) latching ≡ false
    → AllByRecursion (λ net. net < j.width) (net_pins latching.pins)
    → SameAt j c (step_of j place - 1) t (net_pins latching.pins) → AgreeBefore j c place
    → AllByRecursion (IsOther j c (step_of j place - 1) (before j place)) (net_pins latching.pins)
    → decided (c (before j place)) (not bit) ≡ not bit → is_local j c place bit ≡ true
    → c (before j place) ≡ bit_value bit
own_unread j fits c place t latching bit within later next holds driver behind behind_two here early low same agree
    other free local =
    local_value j fits c place (before j place) bit within (back_of j fits place within behind) agree
    (gives_local j c (before j place) bit (λ bits. each_before j fits c place t latching bit bits within later next holds
    driver behind behind_two here early low same other free local))

-- A list has a net, or each of its nets is another.
own_among : (nets : List ℕ) (own : ℕ) → Contains nets own ⊎ AllByRecursion (λ net. (net == own) ≡ false) nets
own_among [] own = inr tt
own_among (net ∷ nets) own = by (net == own) refl (own_among nets own)
  where
    by : (b : Bool) → (net == own) ≡ b → Contains nets own ⊎ AllByRecursion (λ net. (net == own) ≡ false) nets
        → Contains (net ∷ nets) own ⊎ AllByRecursion (λ net. (net == own) ≡ false) (net ∷ nets)
    by true is later = inl (subst (Contains (net ∷ nets)) (eqb-true net own is) (in_front net nets))
    by false is later = ⊎_elim (λ (at : Contains nets own). inl (behind net own nets at))
        (λ (none : AllByRecursion (λ net. (net == own) ≡ false) nets). inr (is, none)) later

differ : (b : Bool) → b ≡ true → b ≡ false → ⊥
differ true is isnt = cc
differ false is isnt = cc

-- Nets that aren't its own have other places;
others_unread : (j : Job) → Fits j → (c : ℕ → Value) (s own : ℕ) (nets : List ℕ) → own < j.width
    → AllByRecursion (λ net. net < j.width) nets → AllByRecursion (λ net. (net == own) ≡ false) nets
    → AllByRecursion (IsOther j c s (at j s own)) nets
others_unread j fits c s own [] within low other = tt
others_unread j fits c s own (net ∷ nets) within low other = (
  λ unknown. ne_eqb (at j s net) (at j s own)
      (λ e. differ (net == own) (eq-eqb net own (sym (net_at j fits s net low.0) ∙ ap (net_of j) e
      ∙ net_at j fits s own within)) other.0),
  others_unread j fits c s own nets within low.1 other.1,
)

-- and where its own is certain, so is each that isn't another's.
others_known : (j : Job) (c : ℕ → Value) (s own : ℕ) (nets : List ℕ) → is_unknown (c own) ≡ false
    → AllByRecursion (IsOther j c s own) nets
others_known j c s own [] known = tt
others_known j c s own (net ∷ nets) known = (
  λ unknown. ne_eqb (at j s net) own (λ e. differ (is_unknown (c own)) (ap (λ k. is_unknown (c k)) (sym e) ∙ unknown)
      known),
  others_known j c s own nets known,
)

-- A value is a bit, or it may have the other one.
either_bit : (v : Value) (bit : Bool) → (v ≡ bit_value bit) ⊎ (decided v (not bit) ≡ not bit)
either_bit Zero false = inl refl
either_bit Zero true = inr refl
either_bit One false = inr refl
either_bit One true = inl refl
either_bit X bit = inr refl
either_bit Z bit = inr refl

-- ---- a register that reads itself

right_one : (a b : Bool) → a || b ≡ true → a ≡ false → b ≡ true
right_one true b either none = cc
right_one false b either none = either

unknown_apart : (v w : Value) → is_unknown v ≡ true → are_equal v w ≡ false
unknown_apart Zero w unknown = cc
unknown_apart One w unknown = cc
unknown_apart X w unknown = refl
unknown_apart Z w unknown = refl

-- A net that keeps, and isn't certain, is carried.
carried_own : (j : Job) (c : ℕ → Value) (s net : ℕ) → net_keeps j c s net ≡ true → is_unknown (c (at j s net)) ≡ true
    → class_of j c (at j s net) ≡ Carried (at j (s - 1) net) false
carried_own j c s net kept unknown =
    let parts = and_parts (not (s == 0)) (are_equal (c (at j s net)) (c (at j (s - 1) net))
    || is_carried_on (class_of j c (at j s net)) (at j (s - 1) net)) kept in
    carried_on (class_of j c (at j s net)) (at j (s - 1) net)
    (right_one (are_equal (c (at j s net)) (c (at j (s - 1) net)))
    (is_carried_on (class_of j c (at j s net)) (at j (s - 1) net)) parts.1
    (unknown_apart (c (at j s net)) (c (at j (s - 1) net)) unknown))

not_itself : (bit : Bool) → bit_value bit ≡ bit_value (not bit) → ⊥
not_itself false is = cc
not_itself true is = cc

-- Its place a step before passed its bit on too: then it sees the same twice, and its rule gives what it gave.
passed_before : (j : Job) → Fits j → (c : ℕ → Value) (place : ℕ) (latching : Latching) (bit : Bool) → place < places_of j
    → 1 < step_of j place → (step_of j place == 0) ≡ false → j.driver (net_of j place) ≡ Register latching
    → AllByRecursion (λ net. net < j.width) (net_pins latching.pins) → AgreeBefore j c place
    → nets_keep j c (step_of j place - 1) (net_pins latching.pins) ≡ true
    → c (before j place) ≡ c (at j (step_of j place - 1 - 1) (net_of j place))
    → passes_on j c (class_of j c) (before j place) ≡ true → is_local j c place bit ≡ true
    → c (before j place) ≡ bit_value bit
passed_before j fits c place latching bit within later behind driver low agree kept own passes local =
    let step = step_of j place in
    let s = step - 1 in
    let net = net_of j place in
    let back = before j place in
    let net_low = (spot j fits place within).net in
    let register : passes_on_of j c (class_of j c) back s net (Register latching) ≡ true =
    ap (passes_on_of j c (class_of j c) back s net) (sym driver)
    ∙ ap (λ k. passes_on_of j c (class_of j c) back k net (j.driver net)) (sym (step_at j fits s net net_low))
    ∙ ap (λ n. passes_on_of j c (class_of j c) back (step_of j back) n (j.driver n)) (sym (net_at j fits s net net_low))
    ∙ passes in
    let parts = and_parts (nat_lt 1 s && not (had_uncertain_clock j c s latching))
    (nets_keep j c (s - 1) (net_pins latching.pins)) register in
    let more : 1 < s = ltb-true 1 s (and_parts (nat_lt 1 s) (not (had_uncertain_clock j c s latching)) parts.0).0 in
    let two : step_of j place - 1 - 1 ≡ step_of j place - 2 = omega arith in
    let sees : SeesTheSame j c step net latching = record {
      later = omega (arith, more);
      own = own ∙ ap (λ k. c (at j k net)) two;
      new = kept;
      old = subst (λ k. nets_keep j c k (net_pins latching.pins) ≡ true) two parts.1;
    } in
    let kinds = register_kinds j fits c place (spot_here j place) latching (is_spot j fits place within) driver low agree
    sees in
    local_value j fits c place back bit within (back_of j fits place within behind) agree (sym (kinds.local bit) ∙ local)

-- Its place a step before has the bit of the one before that for every assignment: so the pins don't hold it.
carrier_before : (j : Job) → Fits j → (c : ℕ → Value) (place t from : ℕ) (latching : Latching) (bit : Bool)
    → place < places_of j → 1 < step_of j place → step_of j place - 1 ≡ suc t → j.levels ≡ Hold
    → j.driver (net_of j place) ≡ Register latching → (step_of j place == 0) ≡ false
    → (step_of j place - 1 == 0) ≡ false → has_uncertain_clock j c (step_of j place) latching ≡ false
    → has_uncertain_clock j c (step_of j place - 1) latching ≡ false
    → SameAt j c (step_of j place - 1) t (net_pins latching.pins) → is_unknown (c (before j place)) ≡ true
    → Contains (arguments j c (before j place)) from → is_carrier j c (before j place) from false ≡ true
    → is_local j c place bit ≡ true → ⊥
carrier_before j fits c place t from latching bit within later next holds driver behind behind_two here early same unknown
    reads carries local =
    let step = step_of j place in
    let s = step - 1 in
    let back = before j place in
    let other : ℕ → Bool = λ k. not bit in
    let values = as_values (assigned c other) in
    let two : step - 2 ≡ t = omega (arith, next, later) in
    let three : s - 1 ≡ t = omega (arith, next) in
    let twice : pins_at j values s latching.pins ≡ pins_at j values t latching.pins =
    values_moved j values s t latching.pins (same_bits j c (not bit) s t (net_pins latching.pins) same) in
    let gives : known_or (hold_at j values step latching) (bit_value (not bit)) ≡ bit_value bit =
    ap (λ b. known_or (hold_at j values step latching) (bit_value b)) (sym (decided_unknown (c back) (not bit) unknown))
    ∙ sym (here_gives j c place latching other holds driver later behind here
    (ap (λ k. pins_at j values k latching.pins) two ∙ sym twice))
    ∙ local_gives j c place bit other local in
    let held : rule j c (assigned c other) back ≡ bit_value bit =
    before_gives j fits c place latching other bit within holds driver behind_two early
    (ap (λ k. hold (primitive_of j.udps latching.udp) (pins_at j values k latching.pins)) three
    ∙ ap (hold (primitive_of j.udps latching.udp)) (sym twice)
    ∙ must_hold (hold_at j values step latching) bit gives) in
    let parts = and_parts (is_unknown (c from))
    (for_every j c back (λ bits. is_bit (rule j c bits back) (flipped false (bits from)))) carries in
    let carried : rule j c (assigned c other) back ≡ bit_value (assigned c other from) =
    bit_is (rule j c (assigned c other) back) (assigned c other from)
    (every_passes j c back (λ b. is_bit (rule j c b back) (flipped false (b from)))
    (λ f g agree. (rw (rule_reads j c f g back agree, all_at (λ k. f k ≡ g k) (arguments j c back) from agree reads) refl))
    parts.1 other) in
    not_itself bit (sym held ∙ carried ∙ ap bit_value (decided_unknown (c from) (not bit) parts.0))

-- Where its own net is among those of its pins and its place a step before isn't certain.
reads_itself : (j : Job) → Fits j → (c : ℕ → Value) (place t : ℕ) (latching : Latching) (bit : Bool)
    → place < places_of j → 1 < step_of j place → step_of j place - 1 ≡ suc t → j.levels ≡ Hold
    → j.driver (net_of j place) ≡ Register latching → (step_of j place == 0) ≡ false
    → (step_of j place - 1 == 0) ≡ false → has_uncertain_clock j c (step_of j place) latching ≡ false
    → has_uncertain_clock j c (step_of j place - 1) latching ≡ false
    → AllByRecursion (λ net. net < j.width) (net_pins latching.pins)
    → SameAt j c (step_of j place - 1) t (net_pins latching.pins) → AgreeBefore j c place
    → nets_keep j c (step_of j place - 1) (net_pins latching.pins) ≡ true
    → net_keeps j c (step_of j place - 1) (net_of j place) ≡ true → is_unknown (c (before j place)) ≡ true
    → is_local j c place bit ≡ true → c (before j place) ≡ bit_value bit
reads_itself j fits c place t latching bit within later next holds driver behind behind_two here early low same agree
    kept kept_own unknown local =
    let s = step_of j place - 1 in
    let net = net_of j place in
    let back = before j place in
    let from = at j (s - 1) net in
    let less = back_of j fits place within behind in
    let class = carried_own j c s net kept_own unknown in
    let says : ClassSays j c (class_of j c) back (Carried from false) =
    subst (ClassSays j c (class_of j c) back) (sym (class_is j fits c back (omega (arith, less, within))) ∙ class)
    (class_says j c (class_of j c) back) in
    let own : c back ≡ c from = subst (λ k. AgreesWith c k (c back)) class (agree back less) ∙ as_it_is (c from) in
    ⊎_elim (λ passes. passed_before j fits c place latching bit within later behind driver low agree kept own passes.0
    local)
    (λ carries. absurd (carrier_before j fits c place t from latching bit within later next holds driver behind
    behind_two here early same unknown carries.0 carries.1 local)) says

-- A bit that the rule gives for every assignment is that of the place a step before.
held_local : (j : Job) → Fits j → (c : ℕ → Value) (place t : ℕ) (latching : Latching) (bit : Bool)
    → place < places_of j → 1 < step_of j place → step_of j place - 1 ≡ suc t → j.levels ≡ Hold
    → j.driver (net_of j place) ≡ Register latching → (step_of j place == 0) ≡ false
    → (step_of j place - 1 == 0) ≡ false → has_uncertain_clock j c (step_of j place) latching ≡ false
    → has_uncertain_clock j c (step_of j place - 1) latching ≡ false
    → AllByRecursion (λ net. net < j.width) (net_pins latching.pins)
    → SameAt j c (step_of j place - 1) t (net_pins latching.pins) → AgreeBefore j c place
    → nets_keep j c (step_of j place - 1) (net_pins latching.pins) ≡ true
    → is_local j c place bit ≡ true → c (before j place) ≡ bit_value bit
held_local j fits c place t latching bit within later next holds driver behind behind_two here early low same agree kept
    local =
    ⊎_elim (λ (is : c (before j place) ≡ bit_value bit). is)
    (λ (free : decided (c (before j place)) (not bit) ≡ not bit).
    ⊎_elim (λ (among : Contains (net_pins latching.pins) (net_of j place)).
    itself free among (is_unknown (c (before j place))) refl)
    (λ (none : AllByRecursion (λ net. (net == net_of j place) ≡ false) (net_pins latching.pins)).
    unread free (others_unread j fits c (step_of j place - 1) (net_of j place) (net_pins latching.pins)
    (spot j fits place within).net low none))
    (own_among (net_pins latching.pins) (net_of j place))) (either_bit (c (before j place)) bit)
  where
    unread : decided (c (before j place)) (not bit) ≡ not bit
        → AllByRecursion (IsOther j c (step_of j place - 1) (before j place)) (net_pins latching.pins)
        → c (before j place) ≡ bit_value bit
    unread free other = own_unread j fits c place t latching bit within later next holds driver behind behind_two here
        early low same agree other free local

    itself : decided (c (before j place)) (not bit) ≡ not bit → Contains (net_pins latching.pins) (net_of j place)
        → (unknown : Bool) → is_unknown (c (before j place)) ≡ unknown → c (before j place) ≡ bit_value bit
    itself free among true unknown = reads_itself j fits c place t latching bit within later next holds driver behind
        behind_two here early low same agree kept
        (one_passes (net_keeps j c (step_of j place - 1)) (net_pins latching.pins) (net_of j place) kept among) unknown
        local
    itself free among false known = unread free
        (others_known j c (step_of j place - 1) (before j place) (net_pins latching.pins) known)

known_never : (h : Value) (bit : Bool) → is_unknown (known_or h (bit_value bit)) ≡ true → ⊥
known_never Zero bit is = cc
known_never One bit is = cc
known_never X false is = cc
known_never X true is = cc
known_never Z false is = cc
known_never Z true is = cc

pub held_finding : (j : Job) → Fits j → (c : ℕ → Value) (place : ℕ) (latching : Latching) → place < places_of j
    → (step_of j place == 0) ≡ false → AgreeBefore j c place → j.driver (net_of j place) ≡ Register latching
    → 1 < step_of j place → AllByRecursion (λ net. net < j.width) (net_pins latching.pins)
    → SameAt j c (step_of j place - 1) (step_of j place - 2) (net_pins latching.pins)
    → nets_keep j c (step_of j place - 1) (net_pins latching.pins) ≡ true → j.levels ≡ Hold
    → had_uncertain_clock j c (step_of j place) latching ≡ false → Finding j c place
held_finding j fits c place latching within behind agree driver later low same kept holds never =
    let step = step_of j place in
    let here = clock_now j c step latching never in
    let early = clock_before j c step latching holds never in
    let none : ℕ → Bool = λ k. false in
    let values = as_values (assigned c none) in
    let twice : pins_at j values (step - 2) latching.pins ≡ pins_at j values (step - 1) latching.pins =
    sym (values_moved j values (step - 1) (step - 2) latching.pins
    (same_bits j c false (step - 1) (step - 2) (net_pins latching.pins) same)) in
    record {
      local = λ bit local. held_local j fits c place (step - 2) latching bit within later (omega (arith, later)) holds
          driver behind (ne_eqb (step - 1) 0 (λ e. omega (arith, e, later))) here early low same agree kept local;
      free = λ free. known_never (hold_at j values step latching) (assigned c none (before j place))
          (ap is_unknown (sym (here_gives j c place latching none holds driver later behind here twice))
          ∙ free_gives j c place none free);
      passes = λ zero_is one_is. ap (passes_on_of j c (class_of j c) place (step_of j place) (net_of j place)) driver
          ∙ (rw (lt-ltb 1 (step_of j place) later, never, kept) refl);
    }
