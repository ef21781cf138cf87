-- What a check refuses is of the job.
use Rattle.std.proofs.Common.{◌≡◌, ℕ, List, ap, subst, sym}
use Rattle.cert_check.specs.Checked.{IsChecked, IsRefusalOf}
use Rattle.cert_check.proofs.Faultless.{begun_same}
use Rattle.cert_check.specs.declared.refusal.CertFault.{CertFault}
use Rattle.cert_check.specs.declared.refusal.CertFault.TheVariants.{BadEnum, BadLog, BadPair, BadTurn, Header, Missing, Stray, Syntax}
use Rattle.cert_check.specs.declared.refusal.CheckErr.TheVariants.{Optimistic as Objects, Refused as IsRefused}
use Rattle.cert_check.proofs.NamedPlaces.{missing_is_place, objection_is_place}
use Rattle.cert_writer.specs.declared.cert.Cert.{Cert}
use Rattle.cert_check.specs.View.{ConditionView}
use Rattle.design_circuit.specs.Filling.{IsPlace}
use Rattle.design_circuit.specs.Handed.{IsReplay}
use Rattle.design_circuit.specs.History.{HistoryView}
use Rattle.cmd_job.specs.Compared.{job_for}
use Rattle.wave_proved.specs.Contents.{Contents}
use Rattle.wave_proved.specs.declared.advance.Optimistic.{Optimistic as FoundOtherwise}
use Rattle.cmd_phases.specs.Certificate.{IsCertified, IsMissingAt, IsUncertified, uncertified_by}
use Rattle.cmd_phases.specs.Repair.{FitsParts, IsWaveOf, beginning, objection_of}
use Rattle.cmd_phases.specs.declared.cause.Objection.{Objection}
use Rattle.cmd_phases.specs.declared.cause.Refused.TheVariants.{Certificate, Optimistic}
use Rattle.cmd_phases.specs.declared.cause.Uncertified.{Uncertified}
use Rattle.cmd_phases.specs.declared.parts.Parts.{Parts}
use Rattle.law_model.specs.declared.limits.Limits.{Limits}

module _ (limits : Limits) (job : Parts) (history : HistoryView) (cert : Cert) where
  -- A place that lacks its line is one of the job's.
  pub missing_at : (fault : CertFault) → IsRefusalOf (beginning limits job.netlist job.recorded history) cert (IsRefused fault) → IsMissingAt (job_for job.netlist job.recorded) fault
  missing_at (Missing place) refused = missing_is_place (beginning limits job.netlist job.recorded history) cert place refused
  missing_at (Syntax line) refused = tt
  missing_at (Header line) refused = tt
  missing_at (Stray line) refused = tt
  missing_at (BadLog line) refused = tt
  missing_at (BadPair line) refused = tt
  missing_at (BadEnum line) refused = tt
  missing_at (BadTurn line) refused = tt

  -- So is one that is found otherwise.
  pub objected_at : (found : FoundOtherwise) → IsRefusalOf (beginning limits job.netlist job.recorded history) cert (Objects found) → IsPlace (job_for job.netlist job.recorded) found.place
  objected_at found refused = objection_is_place (beginning limits job.netlist job.recorded history) cert found refused

  pub refused_for : (fault : CertFault) (cause : Uncertified) → FitsParts job → IsReplay (job_for job.netlist job.recorded) history
      → IsRefusalOf (beginning limits job.netlist job.recorded history) cert (IsRefused fault) → cause ≡ uncertified_by job fault
      → IsUncertified limits job cert (Certificate cause)
  refused_for fault cause fits replay refused is =
      record { fits = fits; history = history; replay = replay; refusal = IsRefused fault; refused = refused; is = ap (λ (u : Uncertified). Certificate u) is }

  pub objected_for : (found : FoundOtherwise) (objection : Objection) → FitsParts job → IsReplay (job_for job.netlist job.recorded) history
      → IsRefusalOf (beginning limits job.netlist job.recorded history) cert (Objects found) → objection ≡ objection_of job.netlist job.recorded.stim found
      → IsUncertified limits job cert (Optimistic objection)
  objected_for found objection fits replay refused is =
      record { fits = fits; history = history; replay = replay; refusal = Objects found; refused = refused; is = ap (λ (o : Objection). Optimistic o) is }

-- A wave that is checked over a replay is certified, with its conditions.
pub certified_by : (limits : Limits) (job : Parts) (history : HistoryView) (cert : Cert) (wave : Contents) (conditions : List ConditionView) → FitsParts job
    → IsReplay (job_for job.netlist job.recorded) history → IsChecked (beginning limits job.netlist job.recorded history) cert wave conditions
    → IsCertified limits job cert wave conditions
certified_by limits job history cert wave conditions fits replay checked =
    let same : wave.history ≡ history = ap (λ (c : Contents). c.history) (begun_same checked.goes) in
    record {
      fits = fits;
      replay = subst (IsReplay (job_for job.netlist job.recorded)) (sym same) replay;
      checked = subst (λ (h : HistoryView). IsChecked (beginning limits job.netlist job.recorded h) cert wave conditions) (sym same) checked;
    }

-- It is a finished wave of the job.
pub certified_of_job : (limits : Limits) (job : Parts) (cert : Cert) (wave : Contents) (conditions : List ConditionView) → IsCertified limits job cert wave conditions
    → IsWaveOf job.netlist job.recorded wave
certified_of_job limits job cert wave conditions certified =
    let same = begun_same certified.checked.goes in
    record {
      design = ap (λ (c : Contents). c.design) same;
      order = ap (λ (c : Contents). c.order) same;
      stim = ap (λ (c : Contents). c.stim) same;
      finished = certified.checked.finished;
    }
