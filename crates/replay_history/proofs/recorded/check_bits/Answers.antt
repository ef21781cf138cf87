-- The first bit that doesn't agree comes first.
use Rattle.std.proofs.Common.{◌∙◌, ℕ, below_more}
use Rattle.replay_history.specs.Fault.{BitAgrees}
use Rattle.replay_history.specs.Sides.{job_beside}
use Rattle.replay_history.proofs.recorded.check_bits.Goals as goal

pub check_bit-requires-clause-follower : goal.check_bit-requires-clause-follower
check_bit-requires-clause-follower c = rw c.bits.invariant.same c.requires.follower

pub bits-preserved : goal.bits-preserved
bits-preserved c =
    let P : ℕ → Type 0 = BitAgrees (job_beside c.args.sides.now) c.args.sides.now.recording.now c.args.moment c.args.variable.now in
    record {
      same = c.in_ok-check_bit.ensures.same ∙ c.bits.invariant.same;
      agree = below_more P c.bits.bit c.bits.invariant.agree c.in_ok-check_bit.ensures.agrees;
    }
