-- What isn't due has no line.
use Rattle.std.proofs.Common.{subst, sym}
use Rattle.report_bits.specs.Marked.{QuietUnlessDue}
use Rattle.report_bits.specs.declared.lines.ReportLines.{ReportLines}
use Rattle.report_bits.proofs.BitLines.{quiet_known}
use Rattle.report_bits.proofs.SameLines.{quiet_same}
use Rattle.report_bits.proofs.marked.mark_rounds.Goals as goal

pub returns-in-All-clause-quiet : goal.returns-in-All-clause-quiet
returns-in-All-clause-quiet c = λ yes.
    quiet_known c.args.from.now.wave.now c.args.from.now.lines c.args.moment c.args.bits.now.nets.items
    c.mark_unknown.new.due (c.mark_unknown.ensures.known yes)

pub returns-in-Changes-clause-quiet : goal.returns-in-Changes-clause-quiet
returns-in-Changes-clause-quiet c = λ yes.
    subst (λ (l : ReportLines). QuietUnlessDue c.args.from.now.wave.now l c.args.moment c.args.bits.now.nets.items
    c.mark_told.new.due) (sym c.in-Changes.is)
    (quiet_same c.args.from.now.wave.now c.args.moment c.args.bits.now.nets.items c.mark_told.new.due c.requires.later
    (c.mark_told.ensures.same yes))
