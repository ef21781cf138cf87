-- All steps are filled in the end.
use Rattle.std.proofs.Common.{◌≡◌, ◌+◌, ◌-◌, ◌*◌, ℕ, length, ap, arith, subst}
use Rattle.std.proofs.Math.Nat.{mul_comm}
use Rattle.design_circuit.specs.Circuit.{job_in}
use Rattle.design_circuit.specs.Force.{forced_by}
use Rattle.design_circuit.specs.Job.{places_of}
use Rattle.replay_history.specs.Filled.{IsFilled}
use Rattle.replay_history.specs.Forced.{HasForced}
use Rattle.replay_history.proofs.Forces.{in_order, taken_later}
use Rattle.replay_history.proofs.Marking.{forced_but_for}
use Rattle.replay_history.proofs.Sweeps.{awaited_all}
use Rattle.replay_history.proofs.Writing.{filled_all}
use Rattle.replay_history.proofs.steps.fill_steps.Goals as goal

pub steps-init : goal.steps-init
steps-init c =
    let j = job_in c.args.circuit.now in
    let count = c.width_of-nets.ensures in
    let room = c.in_ok-waiting.ensures.due in
    let ahead = c.in_ok-waiting.ensures.ahead in
    record {
      under_way = c.requires.first;
      filled = record { places = c.requires.places; held = λ place low. absurd (omega (arith, low)) };
      taken = c.requires.forced;
      before = λ later. absurd (omega (arith, later));
      due = awaited_all j (forced_by j c.args.events.now) 0 c.in_ok-waiting.waiting.due (omega (arith, count, room)) (λ p low. c.in_ok-waiting.ensures.all p (omega (arith, count, low)));
      ahead = omega (arith, count, ahead);
    }

pub take_events-taken-requires-clause-ordered : goal.take_events-taken-requires-clause-ordered
take_events-taken-requires-clause-ordered c =
    rw c.steps.invariant.taken.long (in_order (job_in c.args.circuit.now) c.args.circuit.now.fits.fits_job c.args.events.now c.requires.events)

pub invariant_of-step : goal.invariant_of-step
invariant_of-step c =
    let j = job_in c.args.circuit.now in
    let times = ap length c.as_slice.ensures in
    let long = c.steps.invariant.taken.long in
    let now : HasForced j.width c.args.events.now c.steps.number c.take_events-taken.new.values = rw long at c.take_events-taken.ensures.forced in
    record {
      fits = record {
        ordered = in_order j c.args.circuit.now.fits.fits_job c.args.events.now c.requires.events;
        within = rw (← times) (omega arith);
        forces = now;
        range = c.take_events-taken.ensures.taken.few;
        before = λ later. forced_but_for j c.args.circuit.now.fits.fits_job c.args.events.now c.steps.number c.steps.taken c.take_events-taken.result c.steps.forced c.take_events-taken.new.values now (c.steps.invariant.before later) c.take_events-taken.ensures.elsewhere;
      };
    }

pub steps-preserved : goal.steps-preserved
steps-preserved c =
    let j = job_in c.args.circuit.now in
    let long = c.steps.invariant.taken.long in
    let back : c.steps.number ≡ c.steps.number + 1 - 1 = omega arith in
    let values = c.take_events-taken.new.values in
    record {
      under_way = (let under_way = c.in_ok-next_step.ensures.under_way in omega (arith, under_way));
      filled = c.in_ok-next_step.ensures.filled;
      taken = taken_later j.width c.args.events.now c.steps.number c.take_events-taken.result values (rw long at c.take_events-taken.ensures.taken);
      before = λ later. (let P : ℕ → Type 0 = λ n. HasForced (length c.args.circuit.now.design.now.nets) c.args.events.now n c.take_events-taken.new.values in subst P back (rw long at c.take_events-taken.ensures.forced));
      due = c.in_ok-next_step.ensures.due;
      ahead = c.in_ok-next_step.ensures.ahead;
    }

pub returns : goal.returns
returns c =
    let j = job_in c.args.circuit.now in
    let times = ap length c.as_slice.ensures in
    let last : c.steps.number ≡ j.moments * j.rounds = rw (← times) (omega arith) in
    let all : c.steps.number * j.width ≡ places_of j = rw last (mul_comm (j.moments * j.rounds) j.width) in
    let f = forced_by j c.args.events.now in
    filled_all j f c.steps.writer.history (subst (λ n. IsFilled (job_in c.args.circuit.now) (forced_by (job_in c.args.circuit.now) c.args.events.now) n c.steps.writer.history) all c.steps.invariant.filled)
