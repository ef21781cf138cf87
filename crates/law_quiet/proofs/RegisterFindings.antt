-- What is found at a quiet register: where all places that aren't certain have one bit, it looks back at the same
-- values twice, and keeps what it kept.
use Rattle.std.proofs.Common.{◌≡◌, ℕ, zero, suc, ◌-◌, ◌<◌, ◌==◌, ◌&&◌, ◌||◌, not, Bool, true, false}
use Rattle.std.proofs.Common.{refl, sym, ap, ◌∙◌, arith, subst, if◌then◌else◌}
use Rattle.std.specs.List.{AllByRecursion}
use Rattle.std.proofs.lemmas.Bool.{and_parts, lt-ltb}
use Rattle.design_cell.specs.declared.value.Value.{Value}
use Rattle.design_cell.specs.declared.value.Value.TheVariants.{Zero, One, X, Z}
use Rattle.design_cell.specs.Next.{next}
use Rattle.design_cell.specs.Value.{bit_value, is_unknown}
use Rattle.design_cell.proofs.Nexts.{next_idle}
use Rattle.design_circuit.specs.declared.design.Driver.TheVariants.{Register}
use Rattle.design_circuit.specs.declared.design.Driver.{Driver}
use Rattle.design_circuit.specs.declared.design.Latching.{Latching}
use Rattle.design_circuit.specs.Fits.{Fits, FitsDriver}
use Rattle.design_circuit.specs.declared.stim.Levels.{Levels}
use Rattle.design_circuit.specs.declared.stim.Levels.TheVariants.{Change, Hold}
use Rattle.design_circuit.specs.Job.{Job, net_of, places_of, primitive_of, step_of}
use Rattle.design_circuit.specs.Order.{net_pins}
use Rattle.design_circuit.specs.Register.{also_before, had_uncertain_clock, has_uncertain_clock, hold_at, pins_at, updated}
use Rattle.design_circuit.specs.Rule.{as_values, held_or, remade, rule}
use Rattle.design_circuit.specs.World.{decided}
use Rattle.design_circuit.proofs.Rules.{spot}
use Rattle.design_circuit.proofs.TwoBack.{old_later}
use Rattle.law_model.specs.Assignment.{assigned}
use Rattle.law_model.specs.Class.{before, class_of, passes_on_of}
use Rattle.wave_class.specs.Facts.{AgreeBefore}
use Rattle.wave_class.specs.Keeps.{nets_keep}
use Rattle.wave_class.proofs.MovedRules.{SameAt, values_moved}
use Rattle.law_quiet.specs.Due.{is_clocked, is_quiet_of}
use Rattle.law_quiet.proofs.KeptValues.{earlier_back, kept_values}
use Rattle.law_quiet.proofs.HeldFindings.{held_finding, same_bits}
use Rattle.law_quiet.proofs.Findings.{Finding, GivesOwn, gives_local, no_passing, own_free, own_local, rule_here}

-- Where levels decide it by change, and the values of its pins stay, it keeps what it kept.
pub idle : (j : Job) (values : ℕ → Value) (kept : Value) (step : ℕ) (latching : Latching) → j.levels ≡ Change
    → 1 < step → SameAt j values (step - 1) (step - 2) (net_pins latching.pins)
    → remade j values kept step latching ≡ kept
idle j values kept step latching change later same =
    ap (λ l. held_or l (hold_at j values step latching) (updated j values kept step latching)) change
    ∙ ap (λ old. next (primitive_of j.udps latching.udp) latching.clocks old (pins_at j values (step - 1) latching.pins)
    kept)
    (old_later j values step latching.pins later ∙ sym (values_moved j values (step - 1) (step - 2) latching.pins same))
    ∙ next_idle (primitive_of j.udps latching.udp) latching.clocks (pins_at j values (step - 1) latching.pins) kept

unless : (b : Bool) (x y : Value) → b ≡ false → (if b then x else y) ≡ y
unless true x y h = cc
unless false x y h = refl

where_ : (b : Bool) (x y : Value) → b ≡ true → (if b then x else y) ≡ x
where_ true x y h = refl
where_ false x y h = cc

known_itself : (v : Value) (bit : Bool) → is_unknown v ≡ false → v ≡ bit_value (decided v bit)
known_itself Zero bit known = refl
known_itself One bit known = refl
known_itself X bit known = cc
known_itself Z bit known = cc

-- With certain clocks it reads the bits, and without them the certain values.
clocked : (j : Job) (c : ℕ → Value) (place : ℕ) (latching : Latching) → j.levels ≡ Change
    → j.driver (net_of j place) ≡ Register latching → 1 < step_of j place → (step_of j place == 0) ≡ false
    → SameAt j c (step_of j place - 1) (step_of j place - 2) (net_pins latching.pins)
    → has_uncertain_clock j c (step_of j place) latching ≡ false → GivesOwn j c place
clocked j c place latching change driver later behind same certain_is = λ bit. (
    let step = step_of j place in
    rule_here j c (assigned c (λ k. bit)) place (Register latching) driver
    ∙ unless (step == 0) _ _ behind ∙ unless (has_uncertain_clock j c step latching) _ _ certain_is
    ∙ idle j (as_values (assigned c (λ k. bit))) (bit_value (assigned c (λ k. bit) (before j place))) step latching
    change later
    (same_bits j c bit (step - 1) (step - 2) (net_pins latching.pins) same)
    )

unclocked : (j : Job) (c : ℕ → Value) (place : ℕ) (latching : Latching) → j.levels ≡ Change
    → j.driver (net_of j place) ≡ Register latching → 1 < step_of j place → (step_of j place == 0) ≡ false
    → SameAt j c (step_of j place - 1) (step_of j place - 2) (net_pins latching.pins)
    → has_uncertain_clock j c (step_of j place) latching ≡ true → (bits : ℕ → Bool)
    → rule j c (assigned c bits) place ≡ c (before j place)
unclocked j c place latching change driver later behind same uncertain bits =
    let step = step_of j place in
    rule_here j c (assigned c bits) place (Register latching) driver
    ∙ unless (step == 0) _ _ behind ∙ where_ (has_uncertain_clock j c step latching) _ _ uncertain
    ∙ idle j c (c (before j place)) step latching change later same

bit_in : (v : Value) → is_unknown v ≡ false → (bit : Bool) × (v ≡ bit_value bit)
bit_in Zero known = (false, refl)
bit_in One known = (true, refl)
bit_in X known = cc
bit_in Z known = cc

not_one : (step : ℕ) → (step == 0) ≡ false → not (step == 1) ≡ true → 1 < step
not_one zero behind more = cc
not_one (suc zero) behind more = cc
not_one (suc (suc step)) behind more = omega arith

chosen_clock : (a b : Bool) → not a || not b ≡ true → a ≡ true → b ≡ false
chosen_clock true false either clock = refl
chosen_clock true true either clock = cc
chosen_clock false b either clock = cc

-- Where levels decide it by change, it looks at its clocks here alone.
never : (j : Job) (c : ℕ → Value) (step : ℕ) (latching : Latching) → j.levels ≡ Change
    → has_uncertain_clock j c step latching ≡ false → had_uncertain_clock j c step latching ≡ false
never j c step latching change here =
    ap (λ l. has_uncertain_clock j c step latching || also_before l (has_uncertain_clock j c (step - 1) latching))
    change ∙ (rw here refl)

-- Both kinds.
by_clock : (j : Job) (c : ℕ → Value) (place : ℕ) (latching : Latching) (uncertain : Bool) → j.levels ≡ Change
    → j.driver (net_of j place) ≡ Register latching → 1 < step_of j place → (step_of j place == 0) ≡ false
    → SameAt j c (step_of j place - 1) (step_of j place - 2) (net_pins latching.pins)
    → nets_keep j c (step_of j place - 1) (net_pins latching.pins) ≡ true
    → has_uncertain_clock j c (step_of j place) latching ≡ uncertain
    → (uncertain ≡ true → is_unknown (c (before j place)) ≡ false) → Finding j c place
by_clock j c place latching false change driver later behind same kept clock known =
    let gives = clocked j c place latching change driver later behind same clock in
    record {
      local = own_local j c place gives;
      free = own_free j c place gives;
      passes = λ zero_is one_is. ap (passes_on_of j c (class_of j c) place (step_of j place) (net_of j place)) driver
          ∙ (rw (lt-ltb 1 (step_of j place) later, never j c (step_of j place) latching change clock, kept) refl);
    }
by_clock j c place latching true change driver later behind same kept clock known =
    let own = known refl in
    let gives : GivesOwn j c place = λ bit.
    unclocked j c place latching change driver later behind same clock (λ k. bit)
    ∙ known_itself (c (before j place)) bit own in
    let there = bit_in (c (before j place)) own in
    record {
      local = own_local j c place gives;
      free = own_free j c place gives;
      passes = no_passing j c place there.0 (gives_local j c place there.0
          (λ bits. unclocked j c place latching change driver later behind same clock bits ∙ there.1));
    }

by_rule : (j : Job) → Fits j → (c : ℕ → Value) (place : ℕ) (latching : Latching) (levels : Levels) → place < places_of j
    → (step_of j place == 0) ≡ false → AgreeBefore j c place → j.driver (net_of j place) ≡ Register latching
    → 1 < step_of j place → AllByRecursion (λ net. net < j.width) (net_pins latching.pins)
    → SameAt j c (step_of j place - 1) (step_of j place - 2) (net_pins latching.pins)
    → nets_keep j c (step_of j place - 1) (net_pins latching.pins) ≡ true → j.levels ≡ levels
    → is_clocked levels (has_uncertain_clock j c (step_of j place) latching)
    (had_uncertain_clock j c (step_of j place) latching) (is_unknown (c (before j place))) ≡ true → Finding j c place
by_rule j fits c place latching Change within behind agree driver later nets same kept is test =
    by_clock j c place latching (has_uncertain_clock j c (step_of j place) latching) is driver later behind same kept
    refl
    (chosen_clock (has_uncertain_clock j c (step_of j place) latching) (is_unknown (c (before j place))) test)
by_rule j fits c place latching Hold within behind agree driver later nets same kept is test =
    held_finding j fits c place latching within behind agree driver later nets same kept is
    (not_true (had_uncertain_clock j c (step_of j place) latching) test)
  where
    not_true : (b : Bool) → not b ≡ true → b ≡ false
    not_true false h = refl
    not_true true h = cc

pub register_finding : (j : Job) → Fits j → (c : ℕ → Value) (place : ℕ) (latching : Latching) → place < places_of j
    → (step_of j place == 0) ≡ false → AgreeBefore j c place → j.driver (net_of j place) ≡ Register latching
    → is_quiet_of j c (class_of j c) place (step_of j place) (net_of j place) (Register latching) ≡ true
    → Finding j c place
register_finding j fits c place latching within behind agree driver quiet =
    let step = step_of j place in
    let parts = and_parts (not (step == 1) && nets_keep j c (step - 1) (net_pins latching.pins))
    (is_clocked j.levels (has_uncertain_clock j c step latching) (had_uncertain_clock j c step latching)
    (is_unknown (c (before j place)))) quiet in
    let first = and_parts (not (step == 1)) (nets_keep j c (step - 1) (net_pins latching.pins)) parts.0 in
    let later : 1 < step = not_one step behind first.0 in
    let two : step - 1 - 1 ≡ step - 2 = omega arith in
    let nets : AllByRecursion (λ net. net < j.width) (net_pins latching.pins) =
    (subst (λ (d : Driver). FitsDriver j.udps j.width d) driver (spot j fits place within).driver).nets in
    let same : SameAt j c (step - 1) (step - 2) (net_pins latching.pins) =
    subst (λ t. SameAt j c (step - 1) t (net_pins latching.pins)) two
    (kept_values j c place (step - 1) (net_pins latching.pins) agree
    (earlier_back j fits place (net_pins latching.pins) within behind nets) first.1) in
    by_rule j fits c place latching j.levels within behind agree driver later nets same first.1 refl parts.1
