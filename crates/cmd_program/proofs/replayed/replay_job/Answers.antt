-- The code is read, then the job replayed.
use Rattle.base_run.specs.Prepared.{answer_of}
use Rattle.base_run.proofs.Then.{prepared_then}
use Rattle.cmd_program.specs.Replay.{replay_values, forced_phases}
use Rattle.cmd_phases.specs.Phases.{code_phases, itself}
use Rattle.cmd_program.proofs.replayed.replay_job.Goals as goal

pub returns : goal.returns
returns g c =
    let told = g.S.Shelf.told in
    let w = replay_values c.args.words.now in
    let old = g.S.Shelf.view c.args.shelf.now in
    let new = g.S.Shelf.view c.forces_of.new.shelf in
    let job = c.args.job.now.parts in
    prepared_then told (code_phases w.code w.job job) (forced_phases w job) itself answer_of old new new c.in_ok-forces.forces c.replayed.result
    c.in_ok-forces.ensures.prepared (c.replayed.ensures told new)
