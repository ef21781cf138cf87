-- The job is read, then replayed.
use Rattle.std.proofs.Common.{rules, ◌≡◌, Err}
use Rattle.base_run.specs.Prepared.{answer_of}
use Rattle.base_run.proofs.Then.{prepared_refused, prepared_then}
use Rattle.cmd_program.specs.Replay.{replay_values, coded_phases}
use Rattle.cmd_phases.specs.Phases.{fitted_job, job_phases}
use Rattle.cmd_program.proofs.commands.replay.ReplayRun.prepare.Goals as goal

pub returns-clause-prepared : goal.returns-clause-prepared
returns-clause-prepared g c =
    let told = g.S.Shelf.told in
    let w = replay_values c.args.self.now in
    let old = g.S.Shelf.view c.args.shelf.now in
    let mid = g.S.Shelf.view c.job_of.new.shelf in
    let new = g.S.Shelf.view c.replay_job.new.shelf in
    prepared_then told (job_phases w.job) (coded_phases w) fitted_job answer_of old mid new
    c.in_ok-job.job c.replay_job.result c.in_ok-job.ensures c.replay_job.ensures

pub returns-in_err-job-clause-prepared : goal.returns-in_err-job-clause-prepared
returns-in_err-job-clause-prepared g c =
    let told = g.S.Shelf.told in
    let w = replay_values c.args.self.now in
    let old = g.S.Shelf.view c.args.shelf.now in
    let mid = g.S.Shelf.view c.job_of.new.shelf in
    let e = c.in_err-job.field-0.0 in
    let is : c.from_residual.result ≡ Err e = search rules in
    rw is (prepared_refused told (job_phases w.job) (coded_phases w) fitted_job answer_of old mid mid e c.in_err-job.ensures)
