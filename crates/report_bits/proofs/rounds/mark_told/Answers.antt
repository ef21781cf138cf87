-- Each round is marked, from the last step of the moment before to that of the moment.
use Rattle.std.proofs.Common.{◌≡◌, ℕ, ◌+◌, ◌-◌, ◌*◌, ◌∙◌, ap, arith, refl, subst}
use Rattle.design_circuit.specs.Settled.{last_step}
use Rattle.design_circuit.specs.declared.stim.Stim.{Stim}
use Rattle.replay_history.proofs.Watching.{last_before}
use Rattle.report_bits.specs.Marked.{SameUnlessDue}
use Rattle.report_bits.proofs.SameLines.{same_more, same_none}
use Rattle.wave_proved.specs.Contents.{job}
use Rattle.report_bits.proofs.rounds.mark_told.Goals as goal

pub rounds-init : goal.rounds-init
rounds-init c =
    let wave = c.args.wave.now in
    let nets = c.args.bits.now.nets.items in
    let first = c.args.moment * c.stim.result.now.rounds in
    let none : first - 1 ≡ first + 0 - 1 = omega arith in
    record {
      long = refl;
      same = subst (λ (s : ℕ). SameUnlessDue wave nets (first - 1) s c.args.due.now) none
          (same_none wave nets (first - 1) c.args.due.now);
    }

pub rounds-preserved : goal.rounds-preserved
rounds-preserved c =
    let wave = c.args.wave.now in
    let nets = c.args.bits.now.nets.items in
    let first = c.args.moment * c.stim.result.now.rounds in
    let step = first + c.rounds.round in
    let next : step ≡ first + (c.rounds.round + 1) - 1 = omega arith in
    record {
      long = c.mark_step.ensures.long ∙ c.rounds.invariant.long;
      same = subst (λ (s : ℕ). SameUnlessDue wave nets (first - 1) s c.mark_step.new.due) next
          (same_more wave nets (first - 1) (step - 1) step c.rounds.due c.mark_step.new.due c.mark_step.ensures.more
          c.rounds.invariant.same (c.mark_step.ensures.same c.if-not-mark_step.false));
    }

pub returns-clause-same : goal.returns-clause-same
returns-clause-same c = λ yes.
    (let wave = c.args.wave.now in
    let nets = c.args.bits.now.nets.items in
    let moment = c.args.moment in
    let first = moment * c.stim.result.now.rounds in
    let some = c.recall.ensures.fits.fits_job.some_round in
    let first_is = ap (λ (s : Stim). moment * s.rounds) c.stim.ensures in
    let rounds = ap (λ (s : Stim). s.rounds) c.stim.ensures in
    let test = c.rounds-test.false in
    let end = c.rounds.auto.round-end in
    let before = last_before wave.stim.rounds moment some c.requires.later in
    let from : first - 1 ≡ last_step (job wave) (moment - 1) = omega (arith, first_is, before) in
    let to : first + c.rounds.round - 1 ≡ last_step (job wave) moment =
    omega (arith, first_is, rounds, test, end, some) in
    subst (λ (s : ℕ). SameUnlessDue wave nets s (last_step (job wave) moment) c.rounds.due) from
    (subst (λ (s : ℕ). SameUnlessDue wave nets (first - 1) s c.rounds.due) to c.rounds.invariant.same))
