-- The first time that isn't earlier tells.
use Rattle.std.proofs.Common.{arith}
use Rattle.replay_code.proofs.Moments.{moment_at_is, moment_at_none}
use Rattle.replay_code.proofs.lookup.moment_from.Goals as goal

pub returns-then-times-next : goal.returns-then-times-next
returns-then-times-next c = moment_at_is c.args.stim.now c.as_slice-times.result.now c.args.time c.times.next c.as_slice-times.ensures c.times.invariant c.times-test.true c.if-times-next.true

pub returns-then-times-next-2 : goal.returns-then-times-next-2
returns-then-times-next-2 c = moment_at_none c.args.stim.now c.as_slice-times.result.now c.args.time c.times.next c.requires.times c.as_slice-times.ensures c.times.invariant (λ within. c.if-times-next-2.true)

pub returns : goal.returns
returns c = moment_at_none c.args.stim.now c.as_slice-times.result.now c.args.time c.times.next c.requires.times c.as_slice-times.ensures c.times.invariant (λ within. (let end = c.times-test.false in absurd (omega (arith, within, end))))
