-- One of the paths has no more names.
use Rattle.recording_writer.proofs.Grown.{common-past}
use Rattle.recording_writer.proofs.declarations.common.Goals as goal

pub returns-else-count-to-clause-is : goal.returns-else-count-to-clause-is
returns-else-count-to-clause-is c = common-past _ _ _ c.if-count-to.false c.names.invariant.so_far
