-- The table has one event more.
use Rattle.replay_code.proofs.Events.{table_more}
use Rattle.replay_code.proofs.statements.Statements.push.Goals as goal

pub invariant_of-self-2 : goal.invariant_of-self-2
invariant_of-self-2 c = table_more c.self.inside.forced.items c.self.inside.events.items c.push.new.self.items c.args.event c.self.invariant c.in_ok-push.ensures.items
