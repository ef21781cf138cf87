-- The job is read, then compared.
use Rattle.std.proofs.Common.{rules, ◌≡◌, Err, refl}
use Rattle.base_run.specs.Phases.{Phases, ◌>>=◌, judges}
use Rattle.base_run.proofs.Then.{found_prepared, judged_out, judged_then, prepared_refused, prepared_then}
use Rattle.cmd_words.specs.Words.{job_values}
use Rattle.cmd_phases.specs.Phases.{agreed_job, compare_cause, fitted_job, job_phases, nothing_in}
use Rattle.cmd_phases.specs.Repair.{CompareComes}
use Rattle.cmd_phases.specs.declared.parts.Parts.{Parts}
use Rattle.cmd_phases.proofs.job.agreed_of.Goals as goal

pub returns-in-Err : goal.returns-in-Err
returns-in-Err g c =
    let told = g.S.Shelf.told in
    let w = job_values c.args.words.now in
    let old = g.S.Shelf.view c.args.shelf.now in
    let mid = g.S.Shelf.view c.job_of.new.shelf in
    let job = c.in_ok-job.job.parts in
    let e = c.in-Err.refusal in
    prepared_then told (job_phases w) (λ (x : Parts). judges (CompareComes x.netlist x.recorded) compare_cause >>= (λ (agreed : Unit {0}). Phases.Finds x)) fitted_job agreed_job old mid mid
    c.in_ok-job.job (Err e) c.in_ok-job.ensures
    (judged_out (CompareComes job.netlist job.recorded) compare_cause (λ (agreed : Unit {0}). Phases.Finds job) nothing_in agreed_job e c.in-Err.ensures.judged told mid)

pub returns-in_err-job : goal.returns-in_err-job
returns-in_err-job g c =
    let told = g.S.Shelf.told in
    let w = job_values c.args.words.now in
    let old = g.S.Shelf.view c.args.shelf.now in
    let mid = g.S.Shelf.view c.job_of.new.shelf in
    let e = c.in_err-job.field-0.0 in
    let is : c.from_residual.result ≡ Err e = search rules in
    rw is (prepared_refused told (job_phases w) (λ (x : Parts). judges (CompareComes x.netlist x.recorded) compare_cause >>= (λ (agreed : Unit {0}). Phases.Finds x)) fitted_job agreed_job
    old mid mid e c.in_err-job.ensures)

pub returns-in-Ok : goal.returns-in-Ok
returns-in-Ok g c =
    let told = g.S.Shelf.told in
    let w = job_values c.args.words.now in
    let old = g.S.Shelf.view c.args.shelf.now in
    let mid = g.S.Shelf.view c.job_of.new.shelf in
    let job = c.in_ok-job.job.parts in
    prepared_then told (job_phases w) (λ (x : Parts). judges (CompareComes x.netlist x.recorded) compare_cause >>= (λ (agreed : Unit {0}). Phases.Finds x)) fitted_job agreed_job old mid mid
    c.in_ok-job.job _ c.in_ok-job.ensures
    (judged_then (CompareComes job.netlist job.recorded) compare_cause (λ (agreed : Unit {0}). Phases.Finds job) nothing_in agreed_job
    c.in-Ok.history _ c.in-Ok.ensures.judged (λ t v. found_prepared t agreed_job job v _ refl) told mid)
