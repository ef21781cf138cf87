-- Step 0 is filled, and leaves all due.
use Rattle.replay_history.specs.Going.{forced_in, job_at}
use Rattle.replay_history.proofs.Sweeps.{awaited_second}
use Rattle.replay_history.proofs.steps.next_step.Goals as goal

pub returns-then-step-eq0-clause-due : goal.returns-then-step-eq0-clause-due
returns-then-step-eq0-clause-due c =
    let j = job_at c.args.step.now in
    awaited_second j (forced_in c.args.step.now) c.args.step.now.number c.args.waiting.now.due c.if-step-eq0.true c.requires.due
