-- The next place is in reach, and its class is Line.
use Rattle.decide_cone.proofs.NextLine.{next_line, next_reach}
use Rattle.decide_cone.proofs.tracer.Tracer.trace.Goals as goal

pub trace_root-requires-clause-reach : goal.trace_root-requires-clause-reach
trace_root-requires-clause-reach c = rw c.count.ensures.count (next_reach c.args.wave.now c.requires.line)

pub trace_root-requires-clause-line : goal.trace_root-requires-clause-line
trace_root-requires-clause-line c = rw c.count.ensures.count (next_line c.args.wave.now c.requires.line)
