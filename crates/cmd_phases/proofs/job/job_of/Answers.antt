-- The netlist is read, then the recording.
use Rattle.std.proofs.Common.{rules, ◌≡◌, Err, ap}
use Rattle.base_run.specs.Phases.{Phases, ◌>>=◌}
use Rattle.base_run.proofs.Then.{found_prepared, prepared_refused, prepared_then}
use Rattle.cmd_job.specs.Recorded.{job_netlist}
use Rattle.cmd_job.specs.declared.netlist.Netlist.{Netlist as ANetlist}
use Rattle.cmd_job.specs.declared.recorded.Recorded.{Recorded}
use Rattle.cmd_words.specs.Words.{job_values}
use Rattle.cmd_phases.specs.Phases.{fitted_job, itself, job_parts, job_phases, netlist_phases, parts, recording_phases}
use Rattle.cmd_phases.specs.Repair.{undriven_rule_of}
use Rattle.cmd_phases.proofs.job.job_of.Goals as goal

pub returns-in_err-recorded : goal.returns-in_err-recorded
returns-in_err-recorded g c =
    let told = g.S.Shelf.told in
    let w = job_values c.args.words.now in
    let old = g.S.Shelf.view c.args.shelf.now in
    let mid = g.S.Shelf.view c.netlist_of.new.shelf in
    let new = g.S.Shelf.view c.recorded_of.new.shelf in
    let n = c.in_ok-netlist.netlist in
    let e = c.in_err-recorded.field-0.0 in
    let is : c.from_residual-in_err-recorded.result ≡ Err e = search rules in
    rw is (prepared_then told (netlist_phases w) (λ (x : ANetlist). recording_phases w x >>= (λ (r : Recorded). Phases.Finds (job_parts w x r))) itself fitted_job old mid new
    n (Err e) c.in_ok-netlist.ensures.prepared
    (prepared_refused told (recording_phases w n) (λ (r : Recorded). Phases.Finds (job_parts w n r)) itself fitted_job mid new new e c.in_err-recorded.ensures.prepared))

pub returns : goal.returns
returns g c =
    let told = g.S.Shelf.told in
    let w = job_values c.args.words.now in
    let old = g.S.Shelf.view c.args.shelf.now in
    let mid = g.S.Shelf.view c.netlist_of.new.shelf in
    let new = g.S.Shelf.view c.recorded_of.new.shelf in
    let n = c.in_ok-netlist.netlist in
    let r = c.in_ok-recorded.recorded in
    let is : c.recorded_of.new.netlist ≡ job_netlist (undriven_rule_of w.undriven) n r.binding.bound = c.in_ok-recorded.ensures.netlist in
    prepared_then told (netlist_phases w) (λ (x : ANetlist). recording_phases w x >>= (λ (y : Recorded). Phases.Finds (job_parts w x y))) itself fitted_job old mid new
    n _ c.in_ok-netlist.ensures.prepared
    (prepared_then told (recording_phases w n) (λ (y : Recorded). Phases.Finds (job_parts w n y)) itself fitted_job mid new new r _ c.in_ok-recorded.ensures.prepared
    (found_prepared told fitted_job (job_parts w n r) new _ (ap (λ (x : ANetlist). parts x r) is)))
