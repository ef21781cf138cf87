-- Each round is marked, from the last step of the moment before to that of the moment.
use Rattle.std.proofs.Common.{◌≡◌, ℕ, ◌+◌, ◌-◌, ◌*◌, ◌∙◌, ap, arith, refl, subst}
use Rattle.design_circuit.specs.Settled.{last_step}
use Rattle.design_circuit.specs.declared.stim.Stim.{Stim}
use Rattle.replay_history.proofs.Watching.{last_before}
use Rattle.report_bits.specs.Marked.{KnownUnlessDue}
use Rattle.report_bits.proofs.BitLines.{known_kept}
use Rattle.wave_proved.specs.Contents.{job}
use Rattle.report_bits.proofs.rounds.mark_unknown.Goals as goal

pub rounds-init : goal.rounds-init
rounds-init c =
    let wave = c.args.wave.now in
    let moment = c.args.moment in
    let some = c.recall.ensures.fits.fits_job.some_round in
    let first = ap (λ (s : Stim). moment * s.rounds) c.stim.ensures in
    let before = last_before wave.stim.rounds moment some c.requires.later in
    let from : last_step (job wave) (moment - 1) ≡ moment * c.stim.result.now.rounds + 0 - 1 =
    omega (arith, first, before) in
    record {
      long = refl;
      known = subst (λ (s : ℕ). KnownUnlessDue wave c.args.bits.now.nets.items s c.args.due.now) from
          c.requires.before;
    }

pub rounds-preserved : goal.rounds-preserved
rounds-preserved c =
    let wave = c.args.wave.now in
    let nets = c.args.bits.now.nets.items in
    let step = c.args.moment * c.stim.result.now.rounds + c.rounds.round in
    let next : step ≡ c.args.moment * c.stim.result.now.rounds + (c.rounds.round + 1) - 1 = omega arith in
    record {
      long = c.mark_written.ensures.long ∙ c.rounds.invariant.long;
      known = subst (λ (s : ℕ). KnownUnlessDue wave nets s c.mark_written.new.due) next
          (known_kept wave nets step c.rounds.due c.mark_written.new.due c.mark_written.ensures.more
          (c.mark_written.ensures.shown c.if-not-mark_written.false) c.rounds.invariant.known);
    }
