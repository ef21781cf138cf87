-- Each cause that the phases find has a status of texts.
use Rattle.std.proofs.Common.{ℕ, ◌≤◌, List, sym, subst, arith}
use Rattle.design_circuit.specs.declared.design.Design.{Design}
use Rattle.replay_history.specs.declared.differ.Differ.{Differ}
use Rattle.replay_history.specs.declared.differ.Differ.TheVariants.{Unsettled, Disagrees}
use Rattle.base_run.specs.Phases.{Answer, Phases, ◌>>=◌}
use Rattle.base_run.proofs.Causes.{EachCause}
use Rattle.cmd_words.specs.Words.{JobValues}
use Rattle.cmd_job.specs.Compared.{IsRefusedReplay, refusal_for}
use Rattle.cmd_job.specs.Netlist.{IsRefusedNetlist}
use Rattle.cmd_job.specs.Recorded.{IsRefusedRecording, job_netlist}
use Rattle.cmd_job.specs.declared.compare_refusal.CompareRefusal.{CompareRefusal}
use Rattle.cmd_job.specs.declared.netlist.Netlist.{Netlist as ANetlist}
use Rattle.cmd_job.specs.declared.netlist_refusal.NetlistRefusal.{NetlistRefusal}
use Rattle.cmd_job.specs.declared.netlist_refusal.NetlistRefusal.TheVariants as netlist
use Rattle.cmd_job.specs.declared.recorded.Recorded.{Recorded}
use Rattle.cmd_job.specs.declared.recording_refusal.RecordingRefusal.{RecordingRefusal}
use Rattle.cmd_job.specs.declared.recording_refusal.RecordingRefusal.TheVariants as recording
use Rattle.report_fix.specs.declared.refusal.StartFault.{StartFault}
use Rattle.sat_prove.specs.declared.fault.ProofFault.{ProofFault}
use Rattle.sat_prove.specs.declared.fault.ProofFault.TheVariants as proof
use Rattle.cmd_phases.specs.Cause.{status_of}
use Rattle.cert_check.specs.declared.refusal.CheckErr.{CheckErr}
use Rattle.cert_check.specs.declared.refusal.CheckErr.TheVariants.{Memory as OutOfMemory, Optimistic as Objects, Refused as Unchecked}
use Rattle.replay_code.specs.declared.fault.CodeFault.{CodeFault}
use Rattle.cmd_phases.specs.Certificate.{IsCauseOf, uncertified_by}
use Rattle.cmd_phases.specs.Phases.{job_phases, parts, scope_of}
use Rattle.cmd_phases.specs.Repair.{objection_of, undriven_rule_of}
use Rattle.cmd_phases.specs.declared.cause.Objection.{Objection}
use Rattle.cmd_phases.specs.declared.cause.Refused.{Refused}
use Rattle.cmd_phases.specs.declared.cause.Refused.TheVariants.{Certificate, Code, Compare, LongCertificate, LongCnf, LongCode, LongLog, LongNetlist, LongRecording, Netlist, Optimistic, Proof, Recording, Start}
use Rattle.cmd_phases.specs.declared.cause.Uncertified.{Uncertified}
use Rattle.cmd_phases.specs.declared.parts.Parts.{Parts}

pub IsOfTexts : Refused → Type 0
IsOfTexts cause = (5 ≤ status_of cause) × (status_of cause ≤ 19)

pub statuses : (cause : Refused) → IsOfTexts cause → (5 ≤ status_of cause) × (status_of cause ≤ 19)
unfolding IsOfTexts
statuses cause is = is

pub of_netlist : (text top : List ℕ) (e : NetlistRefusal) → IsRefusedNetlist text top e → IsOfTexts (Netlist e)
unfolding IsOfTexts
of_netlist text top (netlist.Grammar fault) is = (omega arith, omega arith)
of_netlist text top (netlist.Design fault) is = (omega arith, omega arith)
of_netlist text top (netlist.Loop names) is = (omega arith, omega arith)

pub of_recording : (text : List ℕ) (design : Design) (scope : List (List ℕ)) (rounds most : ℕ) (e : RecordingRefusal) → IsRefusedRecording text design scope rounds most e → IsOfTexts (Recording e)
unfolding IsOfTexts
of_recording text design scope rounds most (recording.Grammar fault) is = (omega arith, omega arith)
of_recording text design scope rounds most (recording.NoScope name) is = (omega arith, omega arith)
of_recording text design scope rounds most (recording.RangeDiffers name) is = (omega arith, omega arith)
of_recording text design scope rounds most (recording.MissingInput name) is = (omega arith, omega arith)
of_recording text design scope rounds most (recording.TooLarge places) is = (omega arith, omega arith)

of_differ : (n : ANetlist) (r : Recorded) (d : Differ) → IsOfTexts (Compare (refusal_for n r d))
unfolding IsOfTexts
of_differ n r (Unsettled net moment kept next) = (omega arith, omega arith)
of_differ n r (Disagrees variable bit moment was replayed) = (omega arith, omega arith)

pub of_compare : (n : ANetlist) (r : Recorded) (e : CompareRefusal) → IsRefusedReplay n r e → IsOfTexts (Compare e)
of_compare n r e is = subst (λ (x : CompareRefusal). IsOfTexts (Compare x)) (sym is.reported) (of_differ n r is.differ)

pub of_long : IsOfTexts LongNetlist
unfolding IsOfTexts
of_long = (omega arith, omega arith)

pub of_long_recording : IsOfTexts LongRecording
unfolding IsOfTexts
of_long_recording = (omega arith, omega arith)

pub of_objection : (o : Objection) → IsOfTexts (Optimistic o)
unfolding IsOfTexts
of_objection o = (omega arith, omega arith)

pub of_long_code : IsOfTexts LongCode
unfolding IsOfTexts
of_long_code = (omega arith, omega arith)

pub of_code : (fault : CodeFault) → IsOfTexts (Code fault)
unfolding IsOfTexts
of_code fault = (omega arith, omega arith)

pub of_long_certificate : IsOfTexts LongCertificate
unfolding IsOfTexts
of_long_certificate = (omega arith, omega arith)

pub of_certificate : (cause : Uncertified) → IsOfTexts (Certificate cause)
unfolding IsOfTexts
of_certificate cause = (omega arith, omega arith)

pub of_long_cnf : IsOfTexts LongCnf
unfolding IsOfTexts
of_long_cnf = (omega arith, omega arith)

pub of_long_log : IsOfTexts LongLog
unfolding IsOfTexts
of_long_log = (omega arith, omega arith)

pub of_proof : (fault : ProofFault) → IsOfTexts (Proof fault)
unfolding IsOfTexts
of_proof (proof.Text found) = (omega arith, omega arith)
of_proof (proof.Log clause) = (omega arith, omega arith)

pub of_start : (fault : StartFault) → IsOfTexts (Start fault)
unfolding IsOfTexts
of_start fault = (omega arith, omega arith)

pub of_cause : (job : Parts) (refusal : CheckErr) (cause : Refused) → IsCauseOf job refusal cause → IsOfTexts cause
of_cause job (Unchecked fault) cause is = subst IsOfTexts (sym is) (of_certificate (uncertified_by job fault))
of_cause job (Objects found) cause is = subst IsOfTexts (sym is) (of_objection (objection_of job.netlist job.recorded.stim found))
of_cause job OutOfMemory cause is = absurd is

pub job_of_texts : (w : JobValues) (next : Parts → Phases Answer Refused) → ((n : ANetlist) (r : Recorded) → EachCause IsOfTexts (next (parts n r)))
    → EachCause IsOfTexts (job_phases w >>= next)
job_of_texts w next after = (
  of_long,
  λ text. (
    of_netlist text w.top,
    λ n has. (
      of_long_recording,
      λ recording. (of_recording recording n.design (scope_of w) w.rounds w.places, λ r held. after (job_netlist (undriven_rule_of w.undriven) n r.binding.bound) r),
    ),
  ),
)
