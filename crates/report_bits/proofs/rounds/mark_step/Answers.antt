-- What isn't due has what it had, in the history and in the wave.
use Rattle.report_bits.proofs.SameLines.{same_step}
use Rattle.report_bits.proofs.rounds.mark_step.Goals as goal

pub returns-clause-same : goal.returns-clause-same
returns-clause-same c = λ yes.
    same_step c.args.wave.now c.args.bits.now.nets.items c.args.step c.mark_anew.new.due c.mark_written.new.due
    c.mark_written.ensures.more c.mark_anew.ensures.written (c.mark_written.ensures.shown yes)
