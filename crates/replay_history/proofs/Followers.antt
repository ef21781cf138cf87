-- Where a comparison stands once a moment is done.
use Rattle.std.proofs.Common.{ℕ, ◌+◌, ◌*◌, ◌≤◌, arith}
use Rattle.std.proofs.Math.Nat.{mul-le-mul_right}
use Rattle.replay_history.specs.Follower.{IsAt, IsUpTo}
use Rattle.replay_history.specs.Sides.{job_beside}
use Rattle.replay_history.specs.declared.follower.Follower.{Follower}
use Rattle.replay_history.specs.declared.sides.Sides.{Sides}

-- It stands before the last step of the next moment.
pub up_to_later : (sides : Sides) (moment : ℕ) (follower : Follower) → IsAt sides moment follower → IsUpTo sides (moment + 1) follower
up_to_later sides moment follower here =
    let j = job_beside sides in
    let is = here.step in
    let more : moment * j.rounds ≤ (moment + 1) * j.rounds = mul-le-mul_right j.rounds (omega arith) in
    record { along = here.along; step = omega (arith, is, more) }
