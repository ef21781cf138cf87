-- Rows of the kind that part from the row and meet it.
use Rattle.design_cell.proofs.Probes.{conflict_word, conflict_none}
use Rattle.design_cell.proofs.probe.Probe.conflicts.Goals as goal

pub returns-then-word-eq0 : goal.returns-then-word-eq0
returns-then-word-eq0 c = λ inputs row rows base probe is. conflict_none inputs row rows base c.of_kind.result c.parting.result c.if-word-eq0.true (c.of_kind.ensures row probe.kind rows base is) (c.parting.ensures inputs row rows base probe is)

pub returns-else-word-eq0 : goal.returns-else-word-eq0
returns-else-word-eq0 c = λ inputs row rows base probe is. conflict_word inputs row rows base c.of_kind.result c.parting.result c.meeting.result (c.of_kind.ensures row probe.kind rows base is) (c.parting.ensures inputs row rows base probe is) (c.meeting.ensures inputs row rows base probe is)
