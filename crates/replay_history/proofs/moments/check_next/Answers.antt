-- What isn't due agrees as in the moment before.
use Rattle.std.proofs.Common.{◌≡◌, ◌<◌, true, rules, arith}
use Rattle.replay_history.proofs.Bindings.{bits_within}
use Rattle.replay_history.proofs.Watching.{agree_still}
use Rattle.replay_history.proofs.moments.check_next.Goals as goal

pub check_marked-requires-clause-agree : goal.check_marked-requires-clause-agree
check_marked-requires-clause-agree c =
    let sides = c.args.sides.now in
    let marked : c.mark.result ≡ true = search rules in
    let later : 0 < c.args.moment = (let test = c.if-moment-eq0.false in omega (arith, test)) in
    agree_still sides c.requires.sides c.args.bound.now c.args.watchers.now c.args.moment c.mark.new.self.variables c.requires.watchers
    (bits_within sides.circuit.design.now c.args.bound.now _ (omega arith) c.requires.bound)
    c.requires.recorded c.requires.moment (c.mark.ensures.shown marked) (c.mark.ensures.recorded marked) (c.requires.before later)
