-- A job under set starts fits, and its wave stands beside that under the recorded ones.
use Rattle.std.proofs.Common.{◌∙◌, ℕ, ◌≤◌, List, length, sym, ap, subst}
use Rattle.design_circuit.specs.Parts.{PartsFit}
use Rattle.design_circuit.specs.History.{HistoryView}
use Rattle.design_circuit.specs.Stim.{FitsStim}
use Rattle.design_circuit.specs.declared.design.Design.{Design}
use Rattle.design_circuit.specs.declared.stim.Stim.{Stim}
use Rattle.design_circuit.proofs.OrdersFit.{job_fits}
use Rattle.report_fix.specs.Gained.{AreBeside}
use Rattle.cmd_job.specs.declared.netlist.Netlist.{Netlist as ANetlist}
use Rattle.cmd_job.specs.declared.recorded.Recorded.{Recorded}
use Rattle.law_waveforms.specs.Starts.{DifferInStarts}
use Rattle.recording_binding.specs.Binding.{FitsBinding}
use Rattle.wave_proved.specs.Contents.{Contents}
use Rattle.cmd_phases.specs.Repair.{FitsJob, IsRepairedBy}
use Rattle.law_model.specs.declared.limits.Limits.{Limits}

pub set_fits : (n : ANetlist) (r : Recorded) (stim : Stim) → FitsJob n r → FitsStim n.design stim → DifferInStarts r.stim stim → PartsFit n.design n.order stim
set_fits n r stim fits fits_stim others = record {
  fits_job = job_fits n.design n.order stim fits.netlist.design fits.netlist.order fits_stim
      (subst (λ (k : ℕ). 1 ≤ k) (sym others.rounds) fits.recorded.some_round) (subst (λ (k : ℕ). k ≤ 16) (sym others.rounds) fits.recorded.few_rounds);
  fits_stim = fits_stim;
}

pub are_beside : (limits : Limits) (n : ANetlist) (old new : Stim) (h i : HistoryView) (before after : Contents) → DifferInStarts old new
    → IsRepairedBy limits n old h before → IsRepairedBy limits n new i after → AreBeside before after
are_beside limits n old new h i before after others first second = record {
  design = second.of_job.design ∙ sym first.of_job.design;
  order = second.of_job.order ∙ sym first.of_job.order;
  moments = ap (λ (s : Stim). length s.times) second.of_job.stim ∙ ap (λ (times : List ℕ). length times) others.times ∙ sym (ap (λ (s : Stim). length s.times) first.of_job.stim);
  rounds = ap (λ (s : Stim). s.rounds) second.of_job.stim ∙ others.rounds ∙ sym (ap (λ (s : Stim). s.rounds) first.of_job.stim);
  finished = first.finished;
  finished_too = second.finished;
}

pub bound_there : (limits : Limits) (n : ANetlist) (r : Recorded) (h : HistoryView) (before : Contents) → FitsJob n r → IsRepairedBy limits n r.stim h before
    → FitsBinding before.design r.binding
bound_there limits n r h before fits first = subst (λ (d : Design). FitsBinding d r.binding) (sym first.of_job.design) fits.recorded.binding
