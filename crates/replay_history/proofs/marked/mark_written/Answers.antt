-- A net that isn't written shows what it did.
use Rattle.std.proofs.Common.{◌<◌, arith}
use Rattle.replay_history.proofs.Watching.{written_same}
use Rattle.replay_history.proofs.marked.mark_written.Goals as goal

pub mark_changes-requires-clause-within : goal.mark_changes-requires-clause-within
mark_changes-requires-clause-within c = λ i less.
    (let low = c.in-Some.ensures.some.inside i less in
    let nets = c.requires.sides.history.places.nets in
    let room = c.requires.nets in
    omega (arith, low, nets, room))

pub returns-in-Some-clause-same : goal.returns-in-Some-clause-same
returns-in-Some-clause-same c = λ yes.
    written_same c.args.sides.now c.requires.sides c.args.readers.now c.args.step c.in-Some.changes.now c.mark_changes.new.due c.requires.step c.in-Some.ensures.some c.mark_changes.ensures.marked
