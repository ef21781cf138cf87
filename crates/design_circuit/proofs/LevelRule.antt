-- What the level rule adds: a register that levels hold has that bit, whatever it had before.
use Rattle.std.proofs.Common.{◌≡◌, ℕ, zero, suc, ◌+◌, ◌-◌, ◌*◌, ◌<◌, ◌==◌, ◌||◌, Bool, true, false, refl, sym, ap, ◌∙◌}
use Rattle.std.proofs.Common.{arith}
use Rattle.std.proofs.lemmas.Bool.{ne_eqb}
use Rattle.design_cell.specs.declared.value.Value.{Value}
use Rattle.design_cell.specs.declared.value.Value.TheVariants.{Zero, One, X, Z}
use Rattle.design_cell.specs.Next.{next}
use Rattle.design_cell.specs.Value.{bit_value}
use Rattle.design_cell.proofs.Nexts.{next_idle}
use Rattle.design_circuit.specs.declared.design.Driver.TheVariants.{Register}
use Rattle.design_circuit.specs.declared.design.Latching.{Latching}
use Rattle.design_circuit.specs.declared.stim.Levels.{Levels}
use Rattle.design_circuit.specs.declared.stim.Levels.TheVariants.{Change, Hold}
use Rattle.design_circuit.specs.Fits.{Fits, FitsDriver}
use Rattle.design_circuit.specs.Job.{Job, primitive_of}
use Rattle.design_circuit.specs.Register.{also_before, had_uncertain_clock, has_uncertain_clock, hold_at, new_pins, old_pins}
use Rattle.design_circuit.specs.Register.{updated}
use Rattle.design_circuit.specs.Rule.{held_or, places_at, old_places, remade}
use Rattle.design_circuit.specs.World.{decided}
use Rattle.design_circuit.proofs.Rules.{AgreeBelow, agree_on, clock_reads, new_below, old_below}

first_off : (a b : Bool) → (a || b) ≡ false → a ≡ false
first_off true b none = none
first_off false b none = refl

second_off : (a b : Bool) → (a || b) ≡ false → b ≡ false
second_off true b none = cc
second_off false b none = none

-- A clock that wasn't uncertain isn't so where the register looks back, and where levels hold registers it isn't so one
-- step before.
pub clock_now : (j : Job) (c : ℕ → Value) (step : ℕ) (latching : Latching)
    → had_uncertain_clock j c step latching ≡ false
    → has_uncertain_clock j c step latching ≡ false
clock_now j c step latching none =
    first_off (has_uncertain_clock j c step latching)
    (also_before j.levels (has_uncertain_clock j c (step - 1) latching)) none

pub clock_before : (j : Job) (c : ℕ → Value) (step : ℕ) (latching : Latching) → j.levels ≡ Hold
    → had_uncertain_clock j c step latching ≡ false → has_uncertain_clock j c (step - 1) latching ≡ false
clock_before j c step latching hold none =
    sym (ap (λ l. also_before l (has_uncertain_clock j c (step - 1) latching)) hold)
    ∙ second_off (has_uncertain_clock j c step latching)
    (also_before j.levels (has_uncertain_clock j c (step - 1) latching)) none

also_off : (l : Levels) (before : Bool) → before ≡ false → also_before l before ≡ false
also_off Change before off = refl
also_off Hold before off = off

none_either : (a b : Bool) → a ≡ false → b ≡ false → (a || b) ≡ false
none_either a b a_off b_off = rw (a_off, b_off) refl

-- It wasn't where it is certain at both steps.
pub clock_never : (j : Job) (c : ℕ → Value) (step : ℕ) (latching : Latching)
    → has_uncertain_clock j c step latching ≡ false
    → has_uncertain_clock j c (step - 1) latching ≡ false → had_uncertain_clock j c step latching ≡ false
clock_never j c step latching here before =
    none_either (has_uncertain_clock j c step latching)
    (also_before j.levels (has_uncertain_clock j c (step - 1) latching)) here
    (also_off j.levels (has_uncertain_clock j c (step - 1) latching) before)

-- It reads the certain values of the places before alone.
clock_same : (j : Job) → Fits j → (c d : ℕ → Value) (step p : ℕ) (latching : Latching)
    → FitsDriver j.udps j.width (Register latching) → (step == 0) ≡ false → AgreeBelow c d (step * j.width + p)
    → has_uncertain_clock j c step latching ≡ has_uncertain_clock j d step latching
clock_same j fits c d step p latching driver later agree =
    clock_reads j c d step latching
    (agree_on c d (step * j.width + p) (old_places j step latching.pins) agree
    (old_below j fits step p latching driver later))
    (agree_on c d (step * j.width + p) (places_at j (step - 1) latching.pins) agree
    (new_below j fits step p latching driver later))

fewer : (w step p k : ℕ) → k < (step - 1) * w + p → k < step * w + p
fewer w zero p k less = omega (arith, less)
fewer w (suc t) p k less = let e : suc t - 1 ≡ t = omega arith in (let low = rw e at less in omega (arith, low))

pub had_same : (j : Job) → Fits j → (c d : ℕ → Value) (step p : ℕ) (latching : Latching)
    → FitsDriver j.udps j.width (Register latching) → 1 < step → AgreeBelow c d (step * j.width + p)
    → had_uncertain_clock j c step latching ≡ had_uncertain_clock j d step latching
had_same j fits c d step p latching driver later agree =
    let here : has_uncertain_clock j c step latching ≡ has_uncertain_clock j d step latching =
    clock_same j fits c d step p latching driver (ne_eqb step 0 (λ e. omega (arith, e, later))) agree in
    let before : has_uncertain_clock j c (step - 1) latching ≡ has_uncertain_clock j d (step - 1) latching =
    clock_same j fits c d (step - 1) p latching driver (ne_eqb (step - 1) 0 (λ e. omega (arith, e, later)))
    (λ k less. agree k (fewer j.width step p k less)) in
    ap (λ b. b || also_before j.levels (has_uncertain_clock j c (step - 1) latching)) here
    ∙ ap (λ b. has_uncertain_clock j d step latching || also_before j.levels b) before

-- A register whose pins stay makes what it had of them, where levels that hold it held it already.
held_already : (l : Levels) (held other : Value) (own chosen : Bool)
    → (l ≡ Hold → own ≡ decided (held_or Hold held other) chosen)
    → held_or l held (bit_value own) ≡ bit_value own
held_already Change held other own chosen back = refl
held_already Hold Zero other own chosen back = sym (ap bit_value (back refl))
held_already Hold One other own chosen back = sym (ap bit_value (back refl))
held_already Hold X other own chosen back = refl
held_already Hold Z other own chosen back = refl

pub remade_idle : (j : Job) (f : ℕ → Value) (own chosen : Bool) (other : Value) (step : ℕ) (latching : Latching)
    → old_pins j f step latching.pins ≡ new_pins j f step latching.pins
    → (j.levels ≡ Hold → own ≡ decided (held_or Hold (hold_at j f step latching) other) chosen)
    → remade j f (bit_value own) step latching ≡ bit_value own
remade_idle j f own chosen other step latching same back =
    let idle : updated j f (bit_value own) step latching ≡ bit_value own =
    ap (λ values. next (primitive_of j.udps latching.udp) latching.clocks values (new_pins j f step latching.pins)
    (bit_value own)) same
    ∙ next_idle (primitive_of j.udps latching.udp) latching.clocks (new_pins j f step latching.pins) (bit_value own) in
    ap (held_or j.levels (hold_at j f step latching)) idle
    ∙ held_already j.levels (hold_at j f step latching) other own chosen back
