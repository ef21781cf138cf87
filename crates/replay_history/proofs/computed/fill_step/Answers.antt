-- One place more is filled.
use Rattle.std.proofs.Common.{◌≡◌, ◌+◌, ◌*◌, ℕ, arith, subst}
use Rattle.replay_history.specs.Filled.{IsFilled}
use Rattle.replay_history.specs.Going.{forced_in, job_at}
use Rattle.replay_history.proofs.computed.fill_step.Goals as goal

pub positions-preserved : goal.positions-preserved
positions-preserved c =
    let j = job_at c.args.step.now in
    let more : c.args.step.now.number * j.width + c.positions.position + 1 ≡ c.args.step.now.number * j.width + (c.positions.position + 1) = omega arith in
    let P : ℕ → Type 0 = λ n. IsFilled (job_at c.args.step.now) (forced_in c.args.step.now) n c.compute_place.new.writer.history in
    record { under_way = c.in_ok-compute_place.ensures.under_way; filled = subst P more c.in_ok-compute_place.ensures.filled }

pub returns-clause-filled : goal.returns-clause-filled
returns-clause-filled c =
    let j = job_at c.args.step.now in
    let end = c.positions-test.false in
    let last = c.positions.auto.position-end in
    let count = c.width_of-nets.ensures in
    let all : c.args.step.now.number * j.width + c.positions.position ≡ (c.args.step.now.number + 1) * j.width = omega (arith, end, last, count) in
    let P : ℕ → Type 0 = λ n. IsFilled (job_at c.args.step.now) (forced_in c.args.step.now) n c.positions.writer.history in
    subst P all c.positions.invariant.filled
