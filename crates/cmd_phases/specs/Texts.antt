-- What the texts of a job stand for, and what they are refused for.
use Rattle.std.specs.Prelude.{◌≡◌, ℕ, ◌<◌, ◌≤◌, List, [], ◌∷◌, length, Ok, Err}
use Rattle.cert_writer.specs.Wrong.{IsTextOf}
use Rattle.cert_writer.specs.declared.cert.Cert.{Cert}
use Rattle.cert_writer.specs.declared.cert.Form.TheVariants.{Lines, Turns}
use Rattle.cert_check.specs.declared.refusal.CertFault.TheVariants.{Header}
use Rattle.replay_code.specs.Says.{FirstFault}
use Rattle.replay_code.specs.declared.fault.CodeFault.{CodeFault}
use Rattle.replay_history.specs.Fault.{IsFaultless}
use Rattle.design_circuit.specs.declared.stim.Stim.{Stim}
use Rattle.report_fix.specs.Started.{IsFirstFault, IsStarted, Piece}
use Rattle.report_fix.specs.declared.refusal.StartFault.{StartFault}
use Rattle.cmd_job.specs.Compared.{IsRefusedReplay, job_for}
use Rattle.cmd_job.specs.Netlist.{NetlistComes}
use Rattle.cmd_job.specs.Recorded.{RecordingComes, job_netlist}
use Rattle.cmd_job.specs.declared.compare_refusal.CompareRefusal.{CompareRefusal}
use Rattle.cmd_job.specs.declared.netlist.Netlist.{Netlist as ANetlist}
use Rattle.cmd_job.specs.declared.netlist_refusal.NetlistRefusal.{NetlistRefusal}
use Rattle.cmd_job.specs.declared.recorded.Recorded.{Recorded}
use Rattle.cmd_job.specs.declared.recording_refusal.RecordingRefusal.{RecordingRefusal}
use Rattle.base_run.specs.Phases.{text_held}
use Rattle.base_shelf.specs.Shelf.{Files}
use Rattle.cmd_words.specs.Words.{JobValues}
use Rattle.cmd_phases.specs.Certificate.{IsUncertified, IsWrong}
use Rattle.cmd_phases.specs.Code.{code_in, text_limit}
use Rattle.cmd_phases.specs.Phases.{parts, scope_of}
use Rattle.cmd_phases.specs.Repair.{IsObjectionIn, IsWalked, Walked, netlist_limit, recording_limit, rules_of}
use Rattle.cmd_phases.specs.Repair.{undriven_rule_of}
use Rattle.cmd_phases.specs.declared.cause.Objection.{Objection}
use Rattle.cmd_phases.specs.declared.cause.Refused.{Refused}
use Rattle.cmd_phases.specs.declared.cause.Refused.TheVariants.{LongNetlist, Netlist, LongRecording, Recording}
use Rattle.cmd_phases.specs.declared.cause.Refused.TheVariants.{Certificate, Code, Compare, LongCertificate, LongCode}
use Rattle.cmd_phases.specs.declared.cause.Refused.TheVariants.{Optimistic, Start}
use Rattle.cmd_phases.specs.declared.cause.Uncertified.{Uncertified}
use Rattle.cmd_phases.specs.declared.cause.Uncertified.TheVariants.{Line}
use Rattle.cmd_phases.specs.declared.parts.Parts.{Parts}
use Rattle.law_model.specs.declared.limits.Limits.{Limits}

-- The texts that the files of a job hold.
abbrev pub netlist_held : Files → JobValues → List ℕ
netlist_held files w = text_held files w.netlists

abbrev pub recording_held : Files → JobValues → List ℕ
recording_held files w = text_held files (w.recording ∷ [])

-- The netlist's text isn't too long, and stands for this design with its order.
pub record HasNetlist (w : JobValues) (netlist : List ℕ) (n : ANetlist) : Type 0 where
  pub fits : length netlist ≤ netlist_limit
  pub is : NetlistComes netlist w.top (Ok n)

-- Nor is the recording's, and it stands for this recording of the netlist's design, with its binding and its stimulus.
-- The job has the design that the rules of the words make of the netlist's.
pub record IsJob (w : JobValues) (netlist recording : List ℕ) (n : ANetlist) (r : Recorded) : Type 0 where
  pub elaborated : ANetlist
  pub netlist_is : HasNetlist w netlist elaborated
  pub fits : length recording ≤ recording_limit
  pub is : RecordingComes recording elaborated.design (scope_of w) w.rounds w.places (rules_of w) (Ok r)
  pub job_is : n ≡ job_netlist (undriven_rule_of w.undriven) elaborated r.binding.bound

-- ---- refused

pub record IsRefusedNetlist (w : JobValues) (netlist : List ℕ) (e : NetlistRefusal) : Type 0 where
  pub fits : length netlist ≤ netlist_limit
  pub is : NetlistComes netlist w.top (Err e)

-- The netlist stands for a design, and the recording is too long.
pub record IsLongRecording (w : JobValues) (netlist recording : List ℕ) : Type 0 where
  pub n : ANetlist
  pub netlist_is : HasNetlist w netlist n
  pub long : recording_limit < length recording

-- Or it has a fault, or is none of the design.
pub record IsRefusedRecording (w : JobValues) (netlist recording : List ℕ) (e : RecordingRefusal) : Type 0 where
  pub n : ANetlist
  pub netlist_is : HasNetlist w netlist n
  pub fits : length recording ≤ recording_limit
  pub is : RecordingComes recording n.design (scope_of w) w.rounds w.places (rules_of w) (Err e)

-- The texts stand for a job, of which this holds.
pub record HasJob (w : JobValues) (netlist recording : List ℕ) (Holds : ANetlist → Recorded → Type 0) : Type 0 where
  pub n : ANetlist
  pub r : Recorded
  pub job : IsJob w netlist recording n r
  pub holds : Holds n r

-- The recording of a job agrees with its replay.
abbrev pub IsAgreed : Parts → Type 0
IsAgreed job = IsFaultless (job_for job.netlist job.recorded) job.recorded.recording job.recorded.binding

-- The recording agrees with the replay, and a place is found otherwise.
pub record IsObjected (limits : Limits) (objection : Objection) (n : ANetlist) (r : Recorded) : Type 0 where
  pub faultless : IsFaultless (job_for n r) r.recording r.binding
  pub objects : IsObjectionIn limits n r.stim objection

-- The starts are set, and a place is found otherwise under them.
pub record IsFoundUnderSet (pieces : List Piece) (limits : Limits) (objection : Objection) (n : ANetlist)
    (r : Recorded) : Type 0 where
  pub stim : Stim
  pub started : IsStarted n.design r.stim pieces stim
  pub objects : IsObjectionIn limits n stim objection

-- The recording agrees, a walk under the recorded starts finished, and a place is found otherwise under the set ones.
pub record IsObjectedSet (limits : Limits) (pieces : List Piece) (objection : Objection) (job : Parts) : Type 0 where
  pub agreed : IsAgreed job
  -- The walk that finished: no place was found otherwise in it.
  pub before : Walked
  pub walked : IsWalked limits job.netlist job.recorded.stim before
  pub found : IsFoundUnderSet pieces limits objection job.netlist job.recorded

-- What texts are refused for, by its cause: those of the netlist and of the recording come first, in this order; then
-- what is refused of the job that they stand for.
pub data AreRefused (w : JobValues) (netlist recording : List ℕ)
    (After : Parts → Refused → Type 0) : Refused → Type 0 where
  long_netlist : netlist_limit < length netlist → AreRefused w netlist recording After LongNetlist
  netlist_fails : {e : NetlistRefusal} → IsRefusedNetlist w netlist e → AreRefused w netlist recording After (Netlist e)
  long_recording : IsLongRecording w netlist recording → AreRefused w netlist recording After LongRecording
  recording_fails : {e : RecordingRefusal} → IsRefusedRecording w netlist recording e
      → AreRefused w netlist recording After (Recording e)
  job_fails : {cause : Refused} → HasJob w netlist recording (λ n r. After (parts n r) cause)
      → AreRefused w netlist recording After cause

-- `repair`: the recording disagrees, or a place is found otherwise.
pub data RepairFails (limits : Limits) (job : Parts) : Refused → Type 0 where
  disagrees : {e : CompareRefusal} → IsRefusedReplay job.netlist job.recorded e → RepairFails limits job (Compare e)
  objected : {objection : Objection} → IsObjected limits objection job.netlist job.recorded
      → RepairFails limits job (Optimistic objection)

-- `replay`: the code is too long, or has a fault.
pub data CodeFails (code : List ℕ) (scope : List (List ℕ)) (job : Parts) : Refused → Type 0 where
  too_long : text_limit < length code → CodeFails code scope job LongCode
  faulty : {fault : CodeFault} → FirstFault (code_in job code scope) fault → CodeFails code scope job (Code fault)

-- `check`: the recording disagrees; or it agrees, and the certificate is too long, has a wrong line, or stands for one
-- that isn't accepted for the job.
pub data CheckFails (limits : Limits) (cert : List ℕ) (job : Parts) : Refused → Type 0 where
  disagrees : {e : CompareRefusal} → IsRefusedReplay job.netlist job.recorded e
      → CheckFails limits cert job (Compare e)
  too_long : IsAgreed job → text_limit < length cert → CheckFails limits cert job LongCertificate
  wrong : {cause : Uncertified} → IsAgreed job → IsWrong cert cause → CheckFails limits cert job (Certificate cause)
  unaccepted : {cause : Refused} → IsAgreed job → (certificate : Cert) → IsTextOf cert certificate
      → IsUncertified limits job certificate cause → CheckFails limits cert job cause

-- `upgrade`: so it is of a certificate of form 1; one of form 2 is refused for its first line.
pub data UpgradeFails (limits : Limits) (cert : List ℕ) (job : Parts) : Refused → Type 0 where
  disagrees : {e : CompareRefusal} → IsRefusedReplay job.netlist job.recorded e
      → UpgradeFails limits cert job (Compare e)
  too_long : IsAgreed job → text_limit < length cert → UpgradeFails limits cert job LongCertificate
  wrong : {cause : Uncertified} → IsAgreed job → IsWrong cert cause
      → UpgradeFails limits cert job (Certificate cause)
  turned : IsAgreed job → (certificate : Cert) → IsTextOf cert certificate → certificate.form ≡ Turns
      → UpgradeFails limits cert job (Certificate (Line (Header 1)))
  unaccepted : {cause : Refused} → IsAgreed job → (certificate : Cert) → IsTextOf cert certificate
      → certificate.form ≡ Lines → IsUncertified limits job certificate cause → UpgradeFails limits cert job cause

-- `fix`: the recording disagrees; or it agrees, and a start can't be set; or they are set, and a place is found otherwise
-- under the recorded starts, or else under the set ones.
pub data FixFails (limits : Limits) (pieces : List Piece) (job : Parts) : Refused → Type 0 where
  disagrees : {e : CompareRefusal} → IsRefusedReplay job.netlist job.recorded e → FixFails limits pieces job (Compare e)
  unset : {fault : StartFault} → IsAgreed job
      → IsFirstFault job.netlist.design job.recorded.stim.starts pieces fault → FixFails limits pieces job (Start fault)
  objected : {objection : Objection} → (stim : Stim) → IsStarted job.netlist.design job.recorded.stim pieces stim
      → IsObjected limits objection job.netlist job.recorded → FixFails limits pieces job (Optimistic objection)
  objected_set : {objection : Objection} → IsObjectedSet limits pieces objection job
      → FixFails limits pieces job (Optimistic objection)

-- ---- a place that is found otherwise

-- Without an undecided body in the lines before it, it is the one of these texts, whatever the limit of the search.
abbrev pub IsOneFound : JobValues → List ℕ → List ℕ → (Limits → Objection → ANetlist → Recorded → Type 0) → Objection
    → Type 0
IsOneFound w netlist recording Finds objection = objection.undecided ≡ 0 → (limits : Limits) (other : Objection)
    → HasJob w netlist recording (Finds limits other) → other.undecided ≡ 0 → other ≡ objection

abbrev pub IsOneObjection : JobValues → List ℕ → List ℕ → Objection → Type 0
IsOneObjection w netlist recording objection = IsOneFound w netlist recording IsObjected objection

-- `fix`: it is found under the recorded starts, and is the one there; or else so under the set ones.
pub data IsOneOfWalks (limits : Limits) (pieces : List Piece) (w : JobValues) (netlist recording : List ℕ)
    (objection : Objection) : Type 0 where
  of_recorded : HasJob w netlist recording (IsObjected limits objection)
      → IsOneObjection w netlist recording objection → IsOneOfWalks limits pieces w netlist recording objection
  of_set : HasJob w netlist recording (λ n r. IsObjectedSet limits pieces objection (parts n r))
      → IsOneFound w netlist recording (IsFoundUnderSet pieces) objection
      → IsOneOfWalks limits pieces w netlist recording objection

-- What holds of a place that is found otherwise, where that is the cause.
abbrev pub IfOptimistic : (Objection → Type 0) → Refused → Type 0
IfOptimistic Holds (Optimistic objection) = Holds objection
IfOptimistic Holds _ = Unit {0}

abbrev pub IsOneCause : JobValues → List ℕ → List ℕ → Refused → Type 0
IsOneCause w netlist recording cause = IfOptimistic (IsOneObjection w netlist recording) cause
