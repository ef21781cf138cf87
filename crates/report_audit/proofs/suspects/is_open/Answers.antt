-- The place is written, and the replay has it.
use Rattle.report_audit.proofs.Audited.{is_replayed, is_written}
use Rattle.report_audit.proofs.suspects.is_open.Goals as goal

pub mark-requires : goal.mark-requires
mark-requires c = is_written c.args.wave.now c.args.replayed.now c.recall.ensures c.requires.audit c.args.place
    c.requires.step c.requires.net

pub shown-requires : goal.shown-requires
shown-requires c = is_replayed c.args.wave.now c.args.replayed.now c.requires.audit c.args.place c.requires.step
    c.requires.net
