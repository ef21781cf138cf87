-- What is left to put leads to the whole.
use Rattle.std.proofs.Common.{◌≡◌, ◌++◌, length}
use Rattle.replay_code.specs.Clock.{start}
use Rattle.replay_code.specs.Steps.{HasEvents}
use Rattle.replay_code.specs.Written.{event_lines}
use Rattle.replay_code.proofs.write.put_events.Given as goal

abbrev pub invariant-events : goal.invariant-events
invariant-events l = record {
  text : l.text.items ++ event_lines l.design l.stim l.scope l.now l.rest ≡ l.fn.text.items ++ event_lines l.design l.stim l.scope start l.fn.events;
  left : HasEvents l.design l.stim l.rest;
}

abbrev pub decreases-events : goal.decreases-events
decreases-events l = length l.rest
