-- The bits that are left of a moment that begins are those that were left as the one before ended.
use Rattle.std.proofs.Common.{◌-◌}
use Rattle.recording_binding.proofs.BoundBitLemmas.{moment_none, moment_turn}
use Rattle.recording_binding.proofs.bound_bits.BoundBits.begin_moment.Goals as goal

pub returns-then-self-gt0-clause-same : goal.returns-then-self-gt0-clause-same
returns-then-self-gt0-clause-same c =
    let walk = c.args.self.now in
    moment_turn walk.moment walk.more walk.variable walk.bit walk.begun walk.nets.now walk.bound.now c.requires.nets c.requires.begun c.if-self-gt0.true

pub returns-then-self-gt0-clause-end : goal.returns-then-self-gt0-clause-end
returns-then-self-gt0-clause-end c = λ empty.
    (let walk = c.args.self.now in
    moment_none walk.moment (walk.more - 1) walk.variable walk.bit walk.nets.now walk.bound.now c.requires.nets empty)
