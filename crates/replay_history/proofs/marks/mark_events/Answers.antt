-- One event more is due.
use Rattle.std.proofs.Common.{◌∙◌}
use Rattle.design_circuit.specs.Circuit.{job_in}
use Rattle.replay_history.proofs.Marking.{events_more}
use Rattle.replay_history.proofs.marks.mark_events.Goals as goal

pub events-preserved : goal.events-preserved
events-preserved c = record {
  long = c.mark_net.ensures.long ∙ c.events.invariant.long;
  more = λ position is. c.mark_net.ensures.more position (c.events.invariant.more position is);
  events = events_more (job_in c.args.circuit.now) c.args.events.now c.args.from c.events.index c.events.due c.mark_net.new.due c.mark_net.ensures.more c.mark_net.ensures.here c.events.invariant.events;
}
