-- The starts are set, and then the walks.
use Rattle.std.proofs.Common.{◌∙◌, List, Ok, subst}
use Rattle.design_circuit.specs.declared.stim.Stim.{Stim}
use Rattle.report_fix.specs.Started.{Piece}
use Rattle.base_run.specs.Prepared.{Judged, answer_of}
use Rattle.base_run.proofs.Then.{judged_then}
use Rattle.cmd_program.specs.Fix.{fix_values, walk_fixed}
use Rattle.cmd_phases.specs.Phases.{itself, start_cause}
use Rattle.cmd_phases.specs.Sets.{StartsCome, sets_of}
use Rattle.cmd_program.proofs.fixed.fixed.Goals as goal

pub returns-clause-prepared : goal.returns-clause-prepared
returns-clause-prepared g c =
    let w = fix_values c.args.words.now in
    let n = c.args.agreed.now.parts.netlist in
    let r = c.args.agreed.now.parts.recorded in
    let judged = subst (λ (l : List Piece). Judged (StartsCome n r.stim l) start_cause itself (Ok c.in_ok-stim.stim))
    (c.as_slice.ensures.value ∙ c.in_ok-sets.ensures) c.in_ok-stim.ensures.judged in
    judged_then (StartsCome n r.stim (sets_of w.sets)) start_cause (λ (stim : Stim). walk_fixed w n r stim) itself answer_of
    c.in_ok-stim.stim c.walked.result judged c.walked.ensures.prepared
