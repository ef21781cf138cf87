-- The log of the line is accepted again.
use Rattle.std.proofs.Common.{Some, ap, ◌∙◌}
use Rattle.decide_repair.proofs.LogsAgain.{left_again, refuted_again}
use Rattle.decide_repair.proofs.earlier.find_by_log.Goals as goal

pub refuted_again-requires-clause-accepted : goal.refuted_again-requires-clause-accepted
refuted_again-requires-clause-accepted c =
    refuted_again c.args.wave.now c.args.place c.in-Some-Refuted.bit c.in-Some-Refuted.log c.recall.ensures
    c.requires.along c.requires.cone (c.in-Some-Refuted.ensures ∙ ap Some c.in-Some-Refuted.field-0-is)

pub left_again-requires-clause-accepted : goal.left_again-requires-clause-accepted
left_again-requires-clause-accepted c =
    left_again c.args.wave.now c.args.place c.in-Some-Undecided.log c.recall.ensures c.requires.along
    c.requires.cone (c.in-Some-Undecided.ensures ∙ ap Some c.in-Some-Undecided.field-0-is)
