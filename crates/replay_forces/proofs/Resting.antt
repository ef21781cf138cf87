-- A driver that reads what it read one step before gives what it gave there.
use Rattle.std.proofs.Common.{◌≡◌, ℕ, zero, suc, ◌+◌, ◌-◌, ◌*◌, ◌/◌, ◌<◌, ◌≤◌, ◌==◌, false, slice_index, refl, sym, ap, ◌∙◌, arith}
use Rattle.std.proofs.lemmas.Grind.{common_steps}
use Rattle.std.specs.List.{AllByRecursion}
use Rattle.design_cell.specs.declared.value.Value.{Value}
use Rattle.design_cell.specs.declared.value.Value.TheVariants.{X}
use Rattle.design_circuit.specs.Fits.{Fits}
use Rattle.design_circuit.specs.Job.{Job, at}
use Rattle.design_circuit.specs.Order.{arguments_of_driver, net_pins}
use Rattle.design_circuit.specs.Register.{pins_at, updated}
use Rattle.design_circuit.specs.Replay.{driven, register_kept, seen, table_of}
use Rattle.design_circuit.specs.declared.design.Driver.{Driver}
use Rattle.design_circuit.specs.declared.design.Driver.TheVariants.{Input, Undriven, Constant, Copy, Cell, Register}
use Rattle.design_circuit.specs.declared.design.Latching.{Latching}
use Rattle.replay_fans.specs.Nets.{driver_on, looked_at}
use Rattle.replay_fans.proofs.Positions.{at_there}
use Rattle.replay_history.proofs.Quiet.{later_kept}
use Rattle.replay_history.proofs.Replays.{pins_same}
use Rattle.replay_history.proofs.Writing.{net_at, place_within, step_there}
use Rattle.replay_forces.specs.ForcesOf.{forcing, given_of, needed}
use Rattle.replay_forces.specs.Made.{Rests}
use Rattle.replay_forces.specs.Still.{IsStill, looked_on, watched}
use Rattle.replay_forces.proofs.Making.{given_is}
use Rattle.replay_forces.proofs.Rows.{later_step}

-- the values at pins, from values that were still
still_pins : (j : Job) (values : ℕ → Value) (step : ℕ) (latching : Latching) → 1 < step → AllByRecursion (IsStill j values (step - 1)) (net_pins latching.pins) → pins_at j values (step - 2) latching.pins ≡ pins_at j values (step - 1) latching.pins
still_pins j values step latching later still =
    let back : (step - 1) - 1 ≡ step - 2 = omega arith in
    sym (rw back at (pins_same (λ n. values (at j (step - 1) n)) (λ n. values (at j ((step - 1) - 1) n)) latching.pins still))

-- A register that looks back at nets that were still keeps what it gave.
register_steady : (j : Job) (values : ℕ → Value) (given : Value) (step net : ℕ) (latching : Latching) → 1 < step → AllByRecursion (IsStill j values (step - 1)) (net_pins latching.pins) → register_kept j (seen values given) step net latching ≡ given
register_steady j values given step net latching later still =
    let first : (step == 0) ≡ false = not_first step later in
    let kept : register_kept j (seen values given) step net latching ≡ updated j values given step latching = rw first refl in
    kept ∙ later_kept j values given step latching later (still_pins j values step latching later still)
  where
    not_first : (step : ℕ) → 1 < step → (step == 0) ≡ false
    not_first step later = grind (arith, common_steps)

-- So does any driver.
steady : (j : Job) (values : ℕ → Value) (was given : Value) (step net : ℕ) (driver : Driver) → 1 < step → given ≡ driven j (seen values was) (step - 1) net driver → j.recorded (step / j.rounds) net ≡ j.recorded ((step - 1) / j.rounds) net → AllByRecursion (IsStill j values step) (arguments_of_driver driver) → AllByRecursion (IsStill j values (step - 1)) (looked_at driver) → driven j (seen values given) step net driver ≡ given
steady j values was given step net Input later is recorded reads looks = recorded ∙ sym is
steady j values was given step net Undriven later is recorded reads looks = sym is
steady j values was given step net (Constant bit) later is recorded reads looks = sym is
steady j values was given step net (Copy argument) later is recorded reads looks = reads.0 ∙ sym is
steady j values was given step net (Cell table pins) later is recorded reads looks =
    ap (table_of j.udps table) (pins_same (λ n. values (at j step n)) (λ n. values (at j (step - 1) n)) pins reads) ∙ sym is
steady j values was given step net (Register latching) later is recorded reads looks = register_steady j values given step net latching later looks

pub row_back : (step w p : ℕ) → 0 < step → (step - 1) * w + p ≡ step * w + p - w
row_back zero w p later = absurd (omega (arith, later))
row_back (suc s) w p later =
    let e : suc s - 1 ≡ s = omega arith in
    let row : suc s * w ≡ s * w + w = omega arith in
    rw e (omega (arith, row))

row_behind : (step w p : ℕ) → 0 < step → w ≤ step * w + p
row_behind zero w p later = absurd (omega (arith, later))
row_behind (suc s) w p later = let row : suc s * w ≡ s * w + w = omega arith in omega (arith, row)

-- The driver of a place whose net and whose reads are still gives what it gave one step before.
given_rests : (j : Job) → Fits j → (values : ℕ → Value) (step p : ℕ) → 1 < step → step < j.moments * j.rounds → p < j.width → j.recorded (step / j.rounds) (slice_index j.order p) ≡ j.recorded ((step - 1) / j.rounds) (slice_index j.order p) → AllByRecursion (IsStill j values step) (arguments_of_driver (driver_on j p)) → AllByRecursion (IsStill j values (step - 1)) (looked_on j p) → given_of j values (step * j.width + p) ≡ given_of j values ((step - 1) * j.width + p)
given_rests j fits values step p later less low recorded reads looks =
    sym now ∙ steady j values was given step net (j.driver net) later (sym then) recorded reads looks
  where
    place : ℕ
    place = step * j.width + p

    before : ℕ
    before = (step - 1) * j.width + p

    net : ℕ
    net = slice_index j.order p

    given : Value
    given = given_of j values before

    was : Value
    was = given_of j values (before - j.width)

    now : driven j (seen values given) step net (j.driver net) ≡ given_of j values place
    now = rw (step_there j step p low, net_at j step p low) at (given_is j fits values place given (place_within j step p less low) (λ behind. ap (given_of j values) (row_back step j.width p (omega (arith, later)))))

    then : driven j (seen values was) (step - 1) net (j.driver net) ≡ given
    then = rw (step_there j (step - 1) p low, net_at j (step - 1) p low) at (given_is j fits values before was (place_within j (step - 1) p (omega (arith, less)) low) (λ behind. refl))

-- So the place rests.
pub place_rests : (j : Job) → Fits j → (values : ℕ → Value) (step p : ℕ) → 1 < step → step < j.moments * j.rounds → p < j.width → j.recorded (step / j.rounds) (slice_index j.order p) ≡ j.recorded ((step - 1) / j.rounds) (slice_index j.order p) → AllByRecursion (IsStill j values step) (watched j p) → AllByRecursion (IsStill j values (step - 1)) (looked_on j p) → Rests j X (given_of j values) (forcing j values) (step * j.width + p)
unfolding forcing
place_rests j fits values step p later less low recorded watches looks = record {
  same = given ∙ sym (later_step j X (given_of j values) (step * j.width + p) behind);
  forces = force ∙ sym (later_step j _ (forcing j values) (step * j.width + p) behind);
}
  where
    behind : j.width ≤ step * j.width + p
    behind = row_behind step j.width p (omega (arith, later))

    back : (step - 1) * j.width + p ≡ step * j.width + p - j.width
    back = row_back step j.width p (omega (arith, later))

    given : given_of j values (step * j.width + p) ≡ given_of j values (step * j.width + p - j.width)
    given = given_rests j fits values step p later less low recorded watches.1 looks ∙ ap (given_of j values) back

    shown : values (step * j.width + p) ≡ values (step * j.width + p - j.width)
    shown = ap values (sym (at_there j fits step p low)) ∙ (watches.0 ∙ (ap values (at_there j fits (step - 1) p low) ∙ ap values back))

    force : forcing j values (step * j.width + p) ≡ forcing j values (step * j.width + p - j.width)
    force = ap (λ g. needed g (values (step * j.width + p))) given ∙ ap (needed (given_of j values (step * j.width + p - j.width))) shown
